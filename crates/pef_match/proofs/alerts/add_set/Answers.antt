use Rattle.std.proofs.Common.{◌≡◌, ◌+◌, ◌≤◌, ◌++◌, ℕ, Some, length, append-nil, ◌∙◌, ap, sym, subst}
use Rattle.filter_table.specs.Filters.{numbered}
use Rattle.lan_dest.specs.Kept.{kept}
use Rattle.pef_config.specs.Kept.{tables}
use Rattle.pef_config.specs.Places.{our_sizes, filter_at}
use Rattle.pef_match.specs.Alerts.{set_by, set_of}
use Rattle.pef_match.proofs.Sets.{no_entries}
use Rattle.pef_match.proofs.Targets.{alarm_same}
use Rattle.pef_match.proofs.alerts.add_set.Goals as goal

pub add_entries-requires : goal.add_entries-requires
add_entries-requires c =
    let t = tables c.args.config.now in
    let lan = kept c.args.lan.now in
    let ports = c.args.ports.now in
    let event = c.args.event.now in
    let number = c.args.policy_number in
    let each : (n : ℕ) → numbered c.as_slice-filters.result.now n ≡ filter_at t n =
    λ n. ap (λ fs. numbered fs n) c.as_slice-filters.ensures.filters ∙ c.filters.ensures n in
    let found = c.alarm_of.ensures ∙ alarm_same t c.as_slice-filters.result.now c.actions.result event number c.as_slice-filters.ensures.count each c.actions.ensures in
    let set : set_of our_sizes t lan ports event number ≡ set_by our_sizes t lan ports number (Some c.in-Some.alarm) =
    ap (set_by our_sizes t lan ports number) (sym found ∙ c.in-Some.is) in
    record {
      room = subst (λ s. length c.args.targets.now.items + length s ≤ 16) set c.requires.room;
      ready = c.requires.ready;
    }

pub returns-in-Some-clause-value : goal.returns-in-Some-clause-value
returns-in-Some-clause-value c =
    let t = tables c.args.config.now in
    let lan = kept c.args.lan.now in
    let ports = c.args.ports.now in
    let event = c.args.event.now in
    let number = c.args.policy_number in
    let each : (n : ℕ) → numbered c.as_slice-filters.result.now n ≡ filter_at t n =
    λ n. ap (λ fs. numbered fs n) c.as_slice-filters.ensures.filters ∙ c.filters.ensures n in
    let found = c.alarm_of.ensures ∙ alarm_same t c.as_slice-filters.result.now c.actions.result event number c.as_slice-filters.ensures.count each c.actions.ensures in
    c.add_entries.ensures.value
    ∙ ap (λ s. c.args.targets.now.items ++ s) (ap (set_by our_sizes t lan ports number) (sym c.in-Some.is ∙ found))

pub returns-in_default-clause-value : goal.returns-in_default-clause-value
returns-in_default-clause-value c =
    let t = tables c.args.config.now in
    let lan = kept c.args.lan.now in
    let ports = c.args.ports.now in
    let event = c.args.event.now in
    let number = c.args.policy_number in
    let items = c.args.targets.now.items in
    let each : (n : ℕ) → numbered c.as_slice-filters.result.now n ≡ filter_at t n =
    λ n. ap (λ fs. numbered fs n) c.as_slice-filters.ensures.filters ∙ c.filters.ensures n in
    let found = c.alarm_of.ensures ∙ alarm_same t c.as_slice-filters.result.now c.actions.result event number c.as_slice-filters.ensures.count each c.actions.ensures in
    sym (append-nil items)
    ∙ ap (λ s. items ++ s) (no_entries t lan ports number ∙ ap (set_by our_sizes t lan ports number) (sym c.in_default.is ∙ found))
