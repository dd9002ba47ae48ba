use Rattle.trap_console.proofs.Receiving.{received_means}
use Rattle.trap_console.proofs.laws.received_law.Goals as goal

pub returns : goal.returns
returns c = received_means
