use Rattle.pef_core.proofs.Deeds.{event_shows}
use Rattle.pef_core.proofs.controller.Controller.log_event.Goals as goal

pub returns-clause-values : goal.returns-clause-values
returns-clause-values c = event_shows c.args.self.now _ _ c.args.octets.now c.add_event-self.ensures.note c.add_event-self.ensures.log
