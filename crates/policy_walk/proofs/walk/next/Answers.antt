use Rattle.std.proofs.Common.{◌+◌, cond, nat_lt, length, drop, Some, None, sym, ap, ◌∙◌}
use Rattle.policy_walk.proofs.Passing.{first_after_failure}
use Rattle.policy_walk.specs.Tried.{Any}
use Rattle.policy_walk.specs.First.{first_tried}
use Rattle.policy_walk.proofs.walk.next.Goals as goal

pub returns-else-success-clause-place : goal.returns-else-success-clause-place
returns-else-success-clause-place c =
    let stops = c.args.stops.now in
    let from = c.args.place + 1 in
    c.next_after_failure.ensures
    ∙ ap (λ place. cond (nat_lt (place + 1) (length stops)) (Some (place + 1)) None) c.from-from.ensures
    ∙ first_after_failure from from stops
    ∙ ap (λ success. first_tried Any success from (drop from stops)) (sym c.if-success.false)
