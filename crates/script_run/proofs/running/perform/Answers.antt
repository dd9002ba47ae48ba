use Rattle.std.proofs.Common.{ap}
use Rattle.script_run.specs.Going.{kind}
use Rattle.script_run.specs.Top.{outside}
use Rattle.script_run.proofs.PerformLemmas.{performs_not, performs}
use Rattle.script_run.proofs.running.perform.Goals as goal

pub returns-in-Ok : goal.returns-in-Ok
returns-in-Ok g c =
    let k = kind g.M.Machine.rules g.M.Machine.view g.M.Scripted.scripts in
    let old = outside (g.B.Board.view c.args.board.now) (g.S.Source.left c.args.source.now) (g.S.Source.faults c.args.source.now) (g.K.Sink.written c.args.out.now) (g.K.Sink.faults c.args.out.now) in
    rw (c.ending_of.ensures) (performs k old (g.B.Board.view c.open.new.board) c.in-Ok.engine _ c.play.ensures.plays.0 _ _ _ c.in-Ok.ensures c.play.ensures.plays.1
    (g.met.B.Board.sound c.play.new.board) (g.met.M.Machine.agrees c.play.new.engine.machine) (λ Z H text lawful shows left other. ap g.B.Board.view (c.play.ensures.refused Z H text lawful shows left other))
    (λ text left none. ap g.B.Board.view (c.play.ensures.headless text left none)))

pub returns-in-Err : goal.returns-in-Err
returns-in-Err g c =
    let k = kind g.M.Machine.rules g.M.Machine.view g.M.Scripted.scripts in
    let old = outside (g.B.Board.view c.args.board.now) (g.S.Source.left c.args.source.now) (g.S.Source.faults c.args.source.now) (g.K.Sink.written c.args.out.now) (g.K.Sink.faults c.args.out.now) in
    rw (c.ending_at_opening.ensures) (performs_not k old (g.B.Board.view c.open.new.board) c.in-Err.fault c.in-Err.ensures (g.met.B.Board.sound c.open.new.board))
