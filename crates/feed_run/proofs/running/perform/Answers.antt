use Rattle.std.proofs.Common.{ap}
use Rattle.script_run.specs.Going.{kind}
use Rattle.feed_run.specs.Top.{around}
use Rattle.feed_run.proofs.EndLemmas.{performs_not, performs}
use Rattle.feed_run.proofs.running.perform.Goals as goal

pub returns-in-Ok : goal.returns-in-Ok
returns-in-Ok g c =
    let k = kind g.M.Machine.rules g.M.Machine.view g.M.Scripted.scripts in
    let old = around (g.B.Board.view c.args.board.now) (g.F.Feed.arrivals c.args.feed.now) (g.F.Feed.faults c.args.feed.now) (g.K.Sink.written c.args.out.now) (g.K.Sink.faults c.args.out.now) in
    rw (c.ending_of.ensures) (performs k g.M.Fed.item_at c.args.arrivals old (g.B.Board.view c.open.new.board) c.in-Ok.engine _ _ _ _ c.in-Ok.ensures c.follow.ensures.feeds
    (g.met.B.Board.sound c.follow.new.board) (g.met.M.Machine.agrees c.follow.new.engine.machine) c.follow.ensures.named
    (λ Z H lawful shows unfinished. let r = c.follow.ensures.refused Z H lawful shows unfinished in (ap g.B.Board.view r.0, r.2)))

pub returns-in-Err : goal.returns-in-Err
returns-in-Err g c =
    let k = kind g.M.Machine.rules g.M.Machine.view g.M.Scripted.scripts in
    let old = around (g.B.Board.view c.args.board.now) (g.F.Feed.arrivals c.args.feed.now) (g.F.Feed.faults c.args.feed.now) (g.K.Sink.written c.args.out.now) (g.K.Sink.faults c.args.out.now) in
    rw (c.ending_at_opening.ensures) (performs_not k g.M.Fed.item_at c.args.arrivals old (g.B.Board.view c.open.new.board) c.in-Err.fault c.in-Err.ensures (g.met.B.Board.sound c.open.new.board))
