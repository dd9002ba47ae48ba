use Rattle.std.proofs.Common.{Some, ap, subst}
use Rattle.board_core.specs.Crash.{Crashes}
use Rattle.script_run.specs.Going.{kind}
use Rattle.script_run.proofs.InMemory.{repeats_twice}
use Rattle.script_run.proofs.laws.run_after_crash.Goals as goal

pub returns : goal.returns
returns g c =
    let crash = subst (Crashes c.args.before.now c.args.moment c.args.torn) c.in-Some.is c.in_ok-board.ensures in
    repeats_twice (kind g.M.Machine.rules g.M.Machine.view g.M.Scripted.scripts) c.args.before.now c.in-Some.board c.run.new.board c.calls_law.ensures.steps c.calls_law.ensures.lawful crash.1 (ap Some c.in_ok-source.ensures.left) c.run.ensures
