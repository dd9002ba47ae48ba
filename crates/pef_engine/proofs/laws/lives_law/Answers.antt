use Rattle.pef_engine.proofs.LivesLaw.{lives_repeat}
use Rattle.pef_engine.proofs.laws.lives_law.Goals as goal

pub returns : goal.returns
returns g c = λ Z lives are. lives_repeat g.M.Machine.rules Z lives are
