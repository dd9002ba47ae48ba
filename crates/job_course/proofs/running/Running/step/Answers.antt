use Rattle.std.proofs.Common.{sym, ◌∙◌, ap}
use Rattle.job_course.specs.Steps.{part_step}
use Rattle.job_course.specs.Running.{Running}
use Rattle.job_course.proofs.running.Running.step.Goals as goal

pub returns-in-Alerting : goal.returns-in-Alerting
returns-in-Alerting c =
    c.alert_step.ensures
    ∙ ap (part_step c.args.own.now c.self.inside.work) (sym c.in-Alerting.is)
    ∙ ap {A = Running} (λ r. part_step c.args.own.now r.work r.part) c.self.view_is
