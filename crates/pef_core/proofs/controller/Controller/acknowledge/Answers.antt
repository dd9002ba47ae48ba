use Rattle.std.proofs.Common.{◌∙◌, ap}
use Rattle.job_course.specs.declared.counts.Counts.TheVariants.{Ack}
use Rattle.pef_core.specs.declared.controller.Controller.{Controller}
use Rattle.pef_core.proofs.Deeds.{with_count}
use Rattle.pef_core.proofs.controller.Controller.acknowledge.Goals as goal

pub returns-clause-values : goal.returns-clause-values
returns-clause-values c = c.count.ensures.values ∙ ap {A = Controller} (with_count (Ack c.args.ack)) c.finish.ensures
