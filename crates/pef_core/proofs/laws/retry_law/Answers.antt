use Rattle.pef_core.proofs.Retries.{is_sent}
use Rattle.pef_core.proofs.laws.retry_law.Goals as goal

pub returns : goal.returns
returns c = is_sent
