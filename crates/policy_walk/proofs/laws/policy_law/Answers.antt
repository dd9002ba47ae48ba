use Rattle.policy_walk.proofs.Allowed.{may_be_tried}
use Rattle.policy_walk.proofs.laws.policy_law.Goals as goal

pub returns : goal.returns
returns c = may_be_tried
