use Rattle.alert_trap.proofs.Sent.{is_its_trap}
use Rattle.alert_trap.proofs.laws.trap_law.Goals as goal

pub returns : goal.returns
returns c = is_its_trap
