use Rattle.snmp_trap.proofs.Answered.{answers}
use Rattle.snmp_trap.proofs.laws.one_answer.Goals as goal

pub returns : goal.returns
returns c = answers
