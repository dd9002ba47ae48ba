use Rattle.trap_console.proofs.Behind.{goes_on, leaves_none}
use Rattle.trap_console.proofs.machine.ConsoleMachine.apply.Goals as goal

pub returns : goal.returns
returns c = record {
  shows = λ Z H lawful shows. goes_on c.args.self.now c.go_on.new.self c.args.entry.now c.go_on.ensures Z H shows;
  left = λ outcome. leaves_none c.args.self.now c.go_on.new.self c.args.entry.now c.requires.allowed c.go_on.ensures outcome;
}
