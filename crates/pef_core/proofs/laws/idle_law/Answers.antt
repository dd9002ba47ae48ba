use Rattle.pef_core.proofs.Promises.{none_is_left}
use Rattle.pef_core.proofs.laws.idle_law.Goals as goal

pub returns : goal.returns
returns c = none_is_left
