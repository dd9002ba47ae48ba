use Rattle.std.proofs.Common.{◌≡◌, ◌≤◌, map, take}
use Rattle.std.specs.Prelude.{All}
use Rattle.job_course.proofs.turns.stops_of.Given as goal

abbrev pub invariant-loop-target : goal.invariant-loop-target
invariant-loop-target l = record {
  stops : l.stops.items ≡ map (λ target. target.stop) (take l.target-index l.set);
  known : All (λ stop. stop.policy ≤ 4) l.stops.items;
}
