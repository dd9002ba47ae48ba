use Rattle.std.proofs.Common.{◌≡◌, ◌+◌, ◌-◌, ◌≤◌}
use Rattle.pef_engine.specs.Engine.{IsLive, HasPlace}
use Rattle.script_run.specs.Going.{kind, world}
use Rattle.script_run.specs.Lines.{Takes, IsReadyFor, input}
use Rattle.script_run.proofs.taking.take_lines.Given as goal

abbrev pub invariant-lines : goal.invariant-lines
invariant-lines g l = record {
  live : IsLive l.engine;
  place : HasPlace (g.B.Board.view l.board) l.engine;
  line : l.number + l.left ≡ l.count + 2;
  items : l.items + l.left ≤ l.count;
  skip : l.skip ≤ l.left;
  ready : IsReadyFor g.M.Machine.rules g.M.Scripted.scripts (g.M.Machine.view l.engine.machine) l.count (l.skip + (l.count - l.left));
  takes : Takes (kind g.M.Machine.rules g.M.Machine.view g.M.Scripted.scripts)
      (world (g.B.Board.view l.fn.board) l.fn.engine (g.K.Sink.written l.fn.out) (g.K.Sink.faults l.fn.out)) (world (g.B.Board.view l.board) l.engine (g.K.Sink.written l.out) (g.K.Sink.faults l.out))
      (input l.fn.reader (g.S.Source.left l.fn.source) (g.S.Source.faults l.fn.source)) (input l.reader (g.S.Source.left l.source) (g.S.Source.faults l.source)) l.count l.taken l.skip l.left l.number l.items;
}

abbrev pub decreases-lines : goal.decreases-lines
decreases-lines g l = l.left
