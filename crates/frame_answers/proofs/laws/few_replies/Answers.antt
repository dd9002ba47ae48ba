use Rattle.frame_answers.proofs.Short.{are_short}
use Rattle.frame_answers.proofs.laws.few_replies.Goals as goal

pub returns : goal.returns
returns c = are_short
