use Rattle.script_text.proofs.Spelling.{head_spelled, spelled_head}
use Rattle.script_text.proofs.laws.head_spelled.Goals as goal

pub returns : goal.returns
returns c word line head = (head_spelled word line head, spelled_head word line head)
