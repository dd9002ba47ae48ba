use Rattle.std.proofs.Common.{[], None}
use Rattle.script_run.specs.Going.{Goes, kind, world}
use Rattle.script_run.proofs.settling.settle_and_say.Given as goal

abbrev pub invariant-steps : goal.invariant-steps
invariant-steps g l = Goes (kind g.M.Machine.rules g.M.Machine.view g.M.Scripted.scripts) (world (g.B.Board.view l.fn.board) l.fn.engine (g.K.Sink.written l.fn.out) (g.K.Sink.faults l.fn.out))
    (world (g.B.Board.view l.board) l.engine (g.K.Sink.written l.out) (g.K.Sink.faults l.out)) [] None

abbrev pub decreases-steps : goal.decreases-steps
decreases-steps g l = (g.M.Machine.view l.engine.machine).left
