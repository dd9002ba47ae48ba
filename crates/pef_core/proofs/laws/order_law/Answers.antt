use Rattle.pef_core.proofs.Promises.{goes_in_order}
use Rattle.pef_core.proofs.laws.order_law.Goals as goal

pub returns : goal.returns
returns c = goes_in_order
