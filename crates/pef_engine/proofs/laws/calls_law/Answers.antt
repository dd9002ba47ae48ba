use Rattle.std.proofs.Common.{[]}
use Rattle.pef_engine.proofs.CallsLaw.{calls_repeat, calls_lawful}
use Rattle.pef_engine.proofs.laws.calls_law.Goals as goal

pub returns-clause-steps : goal.returns-clause-steps
returns-clause-steps g c = λ Z calls G are. calls_repeat g.M.Machine.rules Z calls G are

pub returns-clause-lawful : goal.returns-clause-lawful
returns-clause-lawful g c = λ Z calls G are. calls_lawful g.M.Machine.rules Z [] calls G tt are
