use Rattle.frame_answers.proofs.Layouts.{are_by_layout}
use Rattle.frame_answers.proofs.laws.by_layout.Goals as goal

pub returns : goal.returns
returns c = are_by_layout
