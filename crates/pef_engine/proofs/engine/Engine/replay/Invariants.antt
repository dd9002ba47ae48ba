use Rattle.std.proofs.Common.{◌≡◌, ◌-◌, ◌^◌}
use Rattle.pef_engine.specs.Engine.{OnlyRead, Replayed}
use Rattle.pef_engine.proofs.engine.Engine.replay.Given as goal

abbrev pub invariant-entries : goal.invariant-entries
invariant-entries g l = record {
  read : OnlyRead (g.B.Board.view l.fn.board) (g.B.Board.view l.board);
  same : (g.B.Board.view l.board).disk_faults ≡ (g.B.Board.view l.fn.board).disk_faults;
  replayed : Replayed g.M.Machine.rules g.M.Machine.view (g.B.Board.view l.board) l.machine l.journal;
}

abbrev pub decreases-entries : goal.decreases-entries
decreases-entries g l = 2 ^ 64 - l.journal.place
