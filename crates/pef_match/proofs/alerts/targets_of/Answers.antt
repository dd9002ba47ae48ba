use Rattle.std.proofs.Common.{arith, ◌≡◌, ◌+◌, ◌-◌, ◌≤◌, ◌++◌, flat_map, length, ◌∙◌, ap, sym, subst}
use Rattle.lan_dest.specs.Kept.{kept}
use Rattle.pef_config.specs.Kept.{tables}
use Rattle.pef_config.specs.Places.{our_sizes}
use Rattle.pef_match.specs.Alerts.{set_of, targets_of}
use Rattle.pef_match.specs.Numbers.{numbers_from}
use Rattle.pef_match.proofs.Sets.{sets_next, room_next, all_sets, all_within}
use Rattle.pef_match.proofs.alerts.targets_of.Goals as goal

pub add_set-requires : goal.add_set-requires
add_set-requires c =
    let t = tables c.args.config.now in
    let lan = kept c.args.lan.now in
    let ports = c.args.ports.now in
    let event = c.args.event.now in
    let number = c.loop-policy_number.policy_number in
    record {
      room = subst (λ l. length l + length (set_of our_sizes t lan ports event number) ≤ 16) (sym c.loop-policy_number.invariant.items)
          (room_next t lan ports event number c.loop-policy_number.auto.policy_number);
      ready = c.loop-policy_number.invariant.ready;
    }

pub loop-policy_number-preserved : goal.loop-policy_number-preserved
loop-policy_number-preserved c =
    let t = tables c.args.config.now in
    let lan = kept c.args.lan.now in
    let ports = c.args.ports.now in
    let event = c.args.event.now in
    let number = c.loop-policy_number.policy_number in
    record {
      items = c.add_set.ensures.value
          ∙ ap (λ l. l ++ set_of our_sizes t lan ports event number) c.loop-policy_number.invariant.items
          ∙ sym (sets_next t lan ports event number c.loop-policy_number.auto.policy_number);
      ready = c.add_set.ensures.ready;
    }

pub returns : goal.returns
returns c =
    let t = tables c.args.config.now in
    let lan = kept c.args.lan.now in
    let ports = c.args.ports.now in
    let event = c.args.event.now in
    let end : c.loop-policy_number.policy_number - 1 ≡ 15 = omega (arith, c.loop-policy_number-test.false, c.loop-policy_number.auto.policy_number-end) in
    let whole : c.loop-policy_number.targets.items ≡ targets_of our_sizes t lan ports event =
    c.loop-policy_number.invariant.items
    ∙ ap (λ k. flat_map (set_of our_sizes t lan ports event) (numbers_from 1 k)) end
    ∙ all_sets t lan ports event in
    record {
      value = whole;
      within = subst (λ l. length l ≤ 16) (sym whole) (all_within t lan ports event);
      ready = c.loop-policy_number.invariant.ready;
    }
