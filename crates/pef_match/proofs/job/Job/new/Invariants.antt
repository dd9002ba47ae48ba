use Rattle.std.proofs.Common.{◌≡◌, take}
use Rattle.pef_match.proofs.job.Job.new.Given as goal

abbrev pub invariant-loop-target : goal.invariant-loop-target
invariant-loop-target l = l.held.items ≡ take l.target-index l.targets
