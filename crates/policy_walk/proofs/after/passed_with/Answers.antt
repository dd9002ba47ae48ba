use Rattle.std.proofs.Common.{◌+◌, nat_eq, true, length, drop, ap, ◌∙◌, sym, refl, arith}
use Rattle.std.proofs.lemmas.List.{at_drop_all}
use Rattle.std.proofs.lemmas.List.Sums.{prefix_len-le-length}
use Rattle.policy_walk.specs.declared.stop.Stop.{Stop}
use Rattle.policy_walk.specs.Tried.{Any, OtherChannel, OtherKind}
use Rattle.policy_walk.specs.First.{first_tried}
use Rattle.policy_walk.proofs.Passing.{no_stop, first_of_another, wanted_after-2, wanted_after-3, wanted_after-4}
use Rattle.policy_walk.proofs.after.passed_with.Goals as goal

pub returns-in-2-clause-passed : goal.returns-in-2-clause-passed
returns-in-2-clause-passed c = λ place.
    let later = c.args.later.now in
    ap (λ wanted. first_tried wanted true place later) (wanted_after-2 c.args.stop c.in-2.is) ∙ no_stop true place later
    ∙ sym (at_drop_all (first_tried Any true (place + length later)) later (length later) (omega arith))

pub returns-in-3-clause-within : goal.returns-in-3-clause-within
returns-in-3-clause-within c = omega (arith, c.count_on_channel.ensures, prefix_len-le-length (λ (stop : Stop). nat_eq stop.channel c.args.stop.channel) c.args.later.now)

pub returns-in-3-clause-passed : goal.returns-in-3-clause-passed
returns-in-3-clause-passed c = λ place.
    let later = c.args.later.now in
    ap (λ wanted. first_tried wanted true place later) (wanted_after-3 c.args.stop c.in-3.is)
    ∙ first_of_another true (OtherChannel c.args.stop.channel) (λ (stop : Stop). nat_eq stop.channel c.args.stop.channel) (λ stop. refl) place later
    ∙ ap (λ n. first_tried Any true (place + n) (drop n later)) (sym c.count_on_channel.ensures)

pub returns-in-4-clause-within : goal.returns-in-4-clause-within
returns-in-4-clause-within c = omega (arith, c.count_of_kind.ensures, prefix_len-le-length (λ (stop : Stop). nat_eq stop.kind c.args.stop.kind) c.args.later.now)

pub returns-in-4-clause-passed : goal.returns-in-4-clause-passed
returns-in-4-clause-passed c = λ place.
    let later = c.args.later.now in
    ap (λ wanted. first_tried wanted true place later) (wanted_after-4 c.args.stop c.in-4.is)
    ∙ first_of_another true (OtherKind c.args.stop.kind) (λ (stop : Stop). nat_eq stop.kind c.args.stop.kind) (λ stop. refl) place later
    ∙ ap (λ n. first_tried Any true (place + n) (drop n later)) (sym c.count_of_kind.ensures)
