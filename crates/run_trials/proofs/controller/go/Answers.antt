use Rattle.pef_engine.specs.declared.entry.Entry.{Entry}
use Rattle.pef_engine.specs.declared.entry.Entry.TheVariants.{Item as Taken, Outcome}
use Rattle.pef_engine.specs.MachineView.{IsReadyFor}
use Rattle.pef_core.specs.declared.item.Item.{Item}
use Rattle.pef_core.specs.declared.controller.Controller.{Controller}
use Rattle.pef_core.specs.View.{view_of}
use Rattle.run_trials.proofs.controller.go.Goals as goal

is_ready : (controller : Controller) (entry : Entry Item) → IsReadyFor (view_of controller) entry
is_ready controller (Taken item) = tt
is_ready controller (Outcome told) = tt

pub apply-requires-clause-ready : goal.apply-requires-clause-ready
apply-requires-clause-ready c = is_ready c.args.controller.now c.args.entry.now
