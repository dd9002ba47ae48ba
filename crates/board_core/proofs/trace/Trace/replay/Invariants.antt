use Rattle.std.proofs.Common.{◌≡◌, ℕ, ◌<◌, take, get_or, true}
use Rattle.board_core.specs.declared.call.Call.{Call}
use Rattle.board_core.specs.Moments.{is_effective}
use Rattle.board_core.specs.Leaving.{IsLeft}
use Rattle.board_core.proofs.trace.Trace.replay.Given as goal

-- the calls so far had their effect by the moment, and were gone through
abbrev pub invariant-loop-call : goal.invariant-loop-call
invariant-loop-call l = record {
  left : IsLeft l.torn l.self.start.items l.self.earlier (take l.call-index l.self.calls.kept.items) l.left;
  effective : (k : ℕ) (d : Call) → k < l.call-index → is_effective l.moment (get_or l.self.calls.kept.items k d) ≡ true;
}
