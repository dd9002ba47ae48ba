use Rattle.pef_core.proofs.Promises.{held}
use Rattle.pef_core.proofs.laws.hold_law.Goals as goal

pub returns : goal.returns
returns c = held
