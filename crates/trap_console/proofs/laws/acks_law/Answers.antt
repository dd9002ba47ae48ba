use Rattle.trap_console.proofs.Acks.{acks_are_rows}
use Rattle.trap_console.proofs.laws.acks_law.Goals as goal

pub returns : goal.returns
returns c = acks_are_rows
