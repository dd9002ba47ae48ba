use Rattle.std.proofs.Common.{refl}
use Rattle.script_run.specs.Top.{outside}
use Rattle.script_run.proofs.EndLemmas.{run_call}
use Rattle.script_run.proofs.running.run.Goals as goal

pub returns : goal.returns
returns g c = run_call _ _ (outside (g.B.Board.view c.perform-end.new.board) (g.S.Source.left c.perform-end.new.source) (g.S.Source.faults c.perform-end.new.source) (g.K.Sink.written c.perform-end.new.out) (g.K.Sink.faults c.perform-end.new.out))
    _ c.perform-end.result c.finish.result c.perform-end.ensures refl refl refl c.finish.ensures
