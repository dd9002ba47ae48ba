use Rattle.std.proofs.Common.{arith, ◌≡◌, ◌+◌, ◌-◌, ◌++◌, Some, None, All, filter_map, length, length-append, append-nil, ◌∙◌, ap, sym, subst}
use Rattle.std.proofs.lemmas.List.Elements.{All-push}
use Rattle.lan_dest.specs.Kept.{kept}
use Rattle.pef_config.specs.Kept.{tables}
use Rattle.pef_config.specs.Places.{our_sizes}
use Rattle.pef_match.specs.Alerts.{set_by}
use Rattle.pef_match.specs.Numbers.{numbers_from}
use Rattle.pef_match.specs.Parts.{CanBeSent}
use Rattle.pef_match.proofs.Sets.{entry_alert, grown, room_at, all_entries}
use Rattle.pef_match.proofs.alerts.add_entries.Goals as goal
use Rattle.pef_match.proofs.alerts.add_entries.Goals.{in-Some, in_default}

pub push-requires : goal.push-requires
push-requires c =
    let t = tables c.args.config.now in
    let lan = kept c.args.lan.now in
    let ports = c.args.ports.now in
    let old = c.args.targets.now.items in
    let n = c.loop-number.number in
    let f = entry_alert t lan ports c.args.policy_number c.args.alarm.now in
    let some : length c.loop-number.targets.items ≡ length old + length (filter_map f (numbers_from 1 (n - 1))) =
    ap length c.loop-number.invariant.items ∙ length-append old (filter_map f (numbers_from 1 (n - 1))) in
    let all : length (filter_map f (numbers_from 1 16)) ≡ length (set_by our_sizes t lan ports c.args.policy_number (Some c.args.alarm.now)) =
    ap length (all_entries t lan ports c.args.policy_number c.args.alarm.now) in
    let one_more = room_at f n c.in-Some.target c.loop-number.auto.number c.loop-number-test.true (sym c.target_at.ensures.value ∙ c.in-Some.is) in
    (omega arith, omega (arith, some, all, one_more, c.requires.room))

pub loop-number-preserved : goal.loop-number-preserved
loop-number-preserved c =
    let old = c.args.targets.now.items in
    let items = c.loop-number.targets.items in
    let n = c.loop-number.number in
    let f = entry_alert (tables c.args.config.now) (kept c.args.lan.now) c.args.ports.now c.args.policy_number c.args.alarm.now in
    elim c.match-target_at.branch [
      | in-Some w ↦
          let longer = ap (λ v. v.items) w.targets-is ∙ w.push.ensures.items in
          record {
            items = grown f old items c.match-target_at.targets.items n (Some w.in-Some.target) (sym w.in-Some.is ∙ c.target_at.ensures.value)
                c.loop-number.auto.number c.loop-number.invariant.items longer;
            ready = subst (All CanBeSent) (sym longer)
                (All-push CanBeSent items w.in-Some.target c.loop-number.invariant.ready (c.target_at.ensures.ready w.in-Some.target w.in-Some.is));
          }
      | in_default w ↦
          let same = ap (λ v. v.items) w.targets-is in
          record {
            items = grown f old items c.match-target_at.targets.items n None (sym w.in_default.is ∙ c.target_at.ensures.value)
                c.loop-number.auto.number c.loop-number.invariant.items (same ∙ sym (append-nil items));
            ready = subst (All CanBeSent) (sym same) c.loop-number.invariant.ready;
          }
    ]

pub returns : goal.returns
returns c =
    let t = tables c.args.config.now in
    let lan = kept c.args.lan.now in
    let ports = c.args.ports.now in
    let old = c.args.targets.now.items in
    let f = entry_alert t lan ports c.args.policy_number c.args.alarm.now in
    let end : c.loop-number.number - 1 ≡ 16 = omega (arith, c.loop-number-test.false, c.loop-number.auto.number-end) in
    record {
      value = c.loop-number.invariant.items ∙ ap (λ k. old ++ filter_map f (numbers_from 1 k)) end
          ∙ ap (λ l. old ++ l) (all_entries t lan ports c.args.policy_number c.args.alarm.now);
      ready = c.loop-number.invariant.ready;
    }
