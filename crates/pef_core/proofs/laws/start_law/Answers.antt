use Rattle.pef_core.proofs.Promises.{all_began}
use Rattle.pef_core.proofs.laws.start_law.Goals as goal

pub returns : goal.returns
returns c = all_began
