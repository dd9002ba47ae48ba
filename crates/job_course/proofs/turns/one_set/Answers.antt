use Rattle.std.proofs.Common.{ap, sym, ◌∙◌, arith, take}
use Rattle.job_course.proofs.TurnOrder.{one_set_by}
use Rattle.job_course.proofs.turns.one_set.Goals as goal

pub returns-clause-set : goal.returns-clause-set
returns-clause-set c = ap (λ n. take n c.args.targets.now) c.count_of.ensures.count ∙ sym (one_set_by c.args.targets.now c.target-item.result c.target-item.is (omega (arith, c.in-len1-up.len_at_least)))
