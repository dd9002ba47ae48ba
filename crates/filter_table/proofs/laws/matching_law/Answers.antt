use Rattle.filter_table.proofs.Decided.{match_decides}
use Rattle.filter_table.proofs.laws.matching_law.Goals as goal

pub returns : goal.returns
returns c = match_decides
