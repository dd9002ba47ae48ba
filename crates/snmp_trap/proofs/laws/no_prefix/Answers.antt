use Rattle.snmp_trap.proofs.Answered.{ends_here}
use Rattle.snmp_trap.proofs.laws.no_prefix.Goals as goal

pub returns : goal.returns
returns c = ends_here
