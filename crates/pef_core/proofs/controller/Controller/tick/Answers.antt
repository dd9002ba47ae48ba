use Rattle.std.proofs.Common.{◌∙◌, ap}
use Rattle.job_course.specs.declared.counts.Counts.TheVariants.{Second}
use Rattle.pef_core.specs.declared.controller.Controller.{Controller}
use Rattle.pef_core.specs.View.{shown}
use Rattle.pef_core.proofs.Deeds.{with_count, ticks_on}
use Rattle.pef_core.proofs.controller.Controller.tick.Goals as goal

pub returns-clause-values : goal.returns-clause-values
returns-clause-values c =
    c.count.ensures.values
    ∙ ap {A = Controller} (with_count Second) c.say_nothing.ensures
    ∙ ticks_on (shown c.args.self.now) c.saturating_sub-self.result c.one_second_less-self.result c.saturating_sub-self.ensures c.one_second_less-self.ensures
