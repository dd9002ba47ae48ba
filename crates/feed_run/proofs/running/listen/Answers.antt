use Rattle.std.proofs.Common.{refl}
use Rattle.feed_run.specs.Top.{around}
use Rattle.feed_run.proofs.EndLemmas.{feed_call}
use Rattle.feed_run.proofs.running.listen.Goals as goal

pub returns : goal.returns
returns g c = feed_call _ _ c.args.arrivals _ (around (g.B.Board.view c.perform-end.new.board) (g.F.Feed.arrivals c.perform-end.new.feed) (g.F.Feed.faults c.perform-end.new.feed) (g.K.Sink.written c.perform-end.new.out) (g.K.Sink.faults c.perform-end.new.out))
    _ c.perform-end.result c.finish.result c.perform-end.ensures refl refl refl c.finish.ensures
