use Rattle.std.proofs.Common.{◌≡◌, ◌-◌, ◌≤◌, true, length, drop}
use Rattle.policy_walk.specs.Tried.{Any}
use Rattle.policy_walk.specs.First.{first_tried}
use Rattle.policy_walk.proofs.after.next_after_success.Given as goal

abbrev pub invariant-loop-place : goal.invariant-loop-place
invariant-loop-place l =
    (l.place ≤ length l.stops) × (first_tried Any true l.fn.from (drop l.fn.from l.stops) ≡ first_tried Any true l.place (drop l.place l.stops))

abbrev pub decreases-loop-place : goal.decreases-loop-place
decreases-loop-place l = length l.stops - l.place
