use Rattle.snmp_trap.proofs.Unique.{one_shortest}
use Rattle.snmp_trap.proofs.laws.one_spelling.Goals as goal

pub returns : goal.returns
returns c = one_shortest
