use Rattle.snmp_trap.proofs.Answered.{is_view, every_view, is_refusal, every_refusal}
use Rattle.snmp_trap.proofs.reading.decode.Goals as goal

pub returns-clause-view : goal.returns-clause-view
returns-clause-view c = is_view _ c.read.result c.read.ensures

pub returns-clause-every_view : goal.returns-clause-every_view
returns-clause-every_view c = every_view _ c.read.result c.read.ensures

pub returns-clause-refused : goal.returns-clause-refused
returns-clause-refused c = is_refusal _ c.read.result c.read.ensures

pub returns-clause-every_refusal : goal.returns-clause-every_refusal
returns-clause-every_refusal c = every_refusal _ c.read.result c.read.ensures
