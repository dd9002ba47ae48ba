use Rattle.std.proofs.Common.{◌+◌, ◌-◌, ◌≤◌}
use Rattle.pef_engine.specs.Engine.{IsLive, HasPlace}
use Rattle.script_run.specs.Going.{kind, world}
use Rattle.feed_run.specs.Arriving.{TakesAny}
use Rattle.feed_run.specs.Feeding.{Feeding, feed_at}
use Rattle.feed_run.proofs.arrivals.take_arrivals.Given as goal

abbrev pub invariant-arrivals : goal.invariant-arrivals
invariant-arrivals g l = record {
  live : IsLive l.engine;
  place : HasPlace (g.B.Board.view l.board) l.engine;
  ready : TakesAny g.M.Machine.rules g.M.Scripted.scripts (g.M.Machine.view l.engine.machine);
  items : l.items + l.left ≤ l.arrivals;
  feeding : Feeding (kind g.M.Machine.rules g.M.Machine.view g.M.Scripted.scripts) g.M.Fed.item_at
      (world (g.B.Board.view l.fn.board) l.fn.engine (g.K.Sink.written l.fn.out) (g.K.Sink.faults l.fn.out)) (world (g.B.Board.view l.board) l.engine (g.K.Sink.written l.out) (g.K.Sink.faults l.out))
      (feed_at (g.F.Feed.arrivals l.fn.feed) (g.F.Feed.faults l.fn.feed)) (feed_at (g.F.Feed.arrivals l.feed) (g.F.Feed.faults l.feed)) (l.arrivals - l.left) l.items;
}

abbrev pub decreases-arrivals : goal.decreases-arrivals
decreases-arrivals g l = l.left
