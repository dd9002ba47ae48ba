use Rattle.std.proofs.Common.{Some, ap}
use Rattle.script_run.specs.Going.{kind}
use Rattle.script_run.proofs.InMemory.{keeps_in_memory}
use Rattle.script_run.proofs.laws.run_in_memory.Goals as goal

pub returns : goal.returns
returns g c = keeps_in_memory (kind g.M.Machine.rules g.M.Machine.view g.M.Scripted.scripts) c.in_ok-board.board c.run.new.board c.in_ok-board.ensures (ap Some c.in_ok-source.ensures.left) c.run.ensures
