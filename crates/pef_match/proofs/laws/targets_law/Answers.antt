use Rattle.pef_match.proofs.Named.{all_named}
use Rattle.pef_match.proofs.laws.targets_law.Goals as goal

pub returns : goal.returns
returns c = all_named
