use Rattle.pef_core.proofs.Promises.{act_before_all, oem_is_last, act_not_again}
use Rattle.pef_core.proofs.laws.job_law.Goals as goal

pub returns-clause-one_act : goal.returns-clause-one_act
returns-clause-one_act c = act_before_all

pub returns-clause-oem_last : goal.returns-clause-oem_last
returns-clause-oem_last c = oem_is_last

pub returns-clause-act_not_again : goal.returns-clause-act_not_again
returns-clause-act_not_again c = act_not_again
