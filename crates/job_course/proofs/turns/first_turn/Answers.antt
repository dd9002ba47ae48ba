use Rattle.std.proofs.Common.{sym, ◌∙◌, ap}
use Rattle.job_course.specs.Undertaking.{turn_at, first_stage}
use Rattle.job_course.proofs.TurnOrder.{starts}
use Rattle.job_course.proofs.turns.first_turn.Goals as goal

pub returns-in-None-clause-value : goal.returns-in-None-clause-value
returns-in-None-clause-value c =
    c.turn_from.ensures.value ∙ sym (starts c.args.job.now 0) ∙ ap (λ act. turn_at c.args.job.now (first_stage act)) (sym c.in-None.is ∙ c.act.ensures)
