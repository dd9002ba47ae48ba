use Rattle.script_run.specs.Top.{outside}
use Rattle.pef_call.proofs.Endings.{inits}
use Rattle.pef_call.proofs.initializing.init.Goals as goal

pub returns : goal.returns
returns g c = inits _ _ (outside (g.B.Board.view c.end_of-end.new.board) (g.S.Source.left c.end_of-end.new.source) (g.S.Source.faults c.end_of-end.new.source) (g.K.Sink.written c.finish.new.out) (g.K.Sink.faults c.finish.new.out))
    c.finish.result c.end_of-end.result c.end_of-end.ensures c.finish.ensures
