use Rattle.std.proofs.Common.{◌≡◌, true, None, Some, ◌∙◌, sym, subst}
use Rattle.lan_dest.specs.Kept.{kept}
use Rattle.pef_config.specs.Kept.{tables}
use Rattle.pef_config.specs.Places.{Policy}
use Rattle.pef_match.specs.declared.target.Target.{Target}
use Rattle.pef_match.specs.Alerts.{is_in_set}
use Rattle.pef_match.specs.Parts.{CanBeSent}
use Rattle.pef_match.proofs.Targets.{entry_is, target_found, target_made, can_be_sent}
use Rattle.pef_match.proofs.alerts.target_at.Goals as goal

pub returns-in_err-to-clause-value : goal.returns-in_err-to-clause-value
returns-in_err-to-clause-value c =
    let t = tables c.args.config.now in
    let n = c.args.number in
    let e = c.in-Ok.entry in
    let same : t (Policy n) ≡ e = sym (c.policies.ensures n) ∙ entry_is c.policies.result.now n e c.requires.0 c.in-Ok.ensures.found in
    let member : is_in_set c.args.policy_number e ≡ true = sym c.is_in_set.ensures ∙ c.if-not-is_in_set.false in
    c.from_residual.ensures
    ∙ target_found t (kept c.args.lan.now) c.args.ports.now c.args.alarm.now c.args.policy_number n e same member None (sym c.in_err-to.was ∙ c.destination_of.ensures.found)

pub returns-clause-value : goal.returns-clause-value
returns-clause-value c =
    let t = tables c.args.config.now in
    let n = c.args.number in
    let e = c.in-Ok.entry in
    let same : t (Policy n) ≡ e = sym (c.policies.ensures n) ∙ entry_is c.policies.result.now n e c.requires.0 c.in-Ok.ensures.found in
    let member : is_in_set c.args.policy_number e ≡ true = sym c.is_in_set.ensures ∙ c.if-not-is_in_set.false in
    target_made t (kept c.args.lan.now) c.args.ports.now c.args.alarm.now c.args.policy_number n e c.in_ok-to.to c.number.result c.of.result
    c.key.result c.text_of.result c.number.ensures c.of.ensures c.key.ensures c.text_of.ensures
    ∙ target_found t (kept c.args.lan.now) c.args.ports.now c.args.alarm.now c.args.policy_number n e same member (Some c.in_ok-to.to)
    (sym c.in_ok-to.was ∙ c.destination_of.ensures.found)

pub returns-clause-ready : goal.returns-clause-ready
returns-clause-ready c x is =
    let target : Target = record {
      policy_number = c.number.result;
      entry = c.args.number;
      stop = c.of.result;
      to = c.in_ok-to.to;
      severity = c.args.alarm.now.severity;
      text = c.text_of.result;
    } in
    let same : target ≡ x = cc is in
    let e = c.in-Ok.entry in
    let member : is_in_set c.args.policy_number e ≡ true = sym c.is_in_set.ensures ∙ c.if-not-is_in_set.false in
    subst CanBeSent same (can_be_sent c.args.policy_number e member target c.of.ensures (c.destination_of.ensures.ranges c.in_ok-to.to c.in_ok-to.was))
