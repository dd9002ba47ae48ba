-- What is said of one controller.
use Rattle.std.specs.Prelude.{◌≡◌, ⊤, List, ℕ, Option, None, IsSome}
use Rattle.board_core.specs.declared.step.Step.{Step}
use Rattle.lan_dest.specs.Kept.{kept}
use Rattle.pef_config.specs.Kept.{tables}
use Rattle.pef_engine.specs.declared.entry.Entry.{Entry}
use Rattle.pef_engine.specs.declared.entry.Entry.TheVariants.{Item as Taken, Outcome}
use Rattle.pef_engine.specs.MachineView.{MachineView}
use Rattle.pef_engine.specs.Scripts.{MayCome, script_of}
use Rattle.pef_core.specs.declared.item.Item.{Item}
use Rattle.pef_core.specs.declared.controller.Controller.{Controller}
use Rattle.pef_core.specs.Values.{Values}
use Rattle.pef_core.specs.Deeds.{standing}
use Rattle.pef_core.specs.Left.{left}
use Rattle.pef_core.specs.Histories.{IsItem, due_in}
use Rattle.pef_core.specs.Report.{step_in, controller_scripts}

-- what a controller holds
abbrev pub shown : Controller → Values
shown c = record {
  own = c.own;
  pef = tables c.config;
  lan = kept c.lan;
  ticks = c.ticks;
  delay = c.delay;
  postpone = c.postpone;
  records = c.log;
  software = c.software;
  note = c.note;
  reply = c.reply;
  replies = c.replies;
  now = record { running = c.running; mark = c.mark; sequence = c.sequence; status = c.status };
}

-- it holds what stands after this history, and the script that was opened last in it
pub record ShowsController (controller : Controller) (Z : List ℕ) (H : List (Entry Item)) : Type 0 where
  pub values_are : shown controller ≡ standing Z H
  pub script_is : controller.script ≡ script_of controller_scripts H

-- the step that is due
abbrev pub due_of : Controller → Option Step
due_of controller = due_in (shown controller)

abbrev pub AllowedBy : Controller → Entry Item → Type 0
AllowedBy controller (Taken item) = (due_of controller ≡ None) × (MayCome controller.script (step_in item) × IsItem item)
AllowedBy controller (Outcome told) = IsSome (due_of controller)

-- a controller is always ready and has no limit of its own
abbrev pub view_of : Controller → MachineView Item
view_of controller = record {
  shows = ShowsController controller;
  due = due_of controller;
  allowed = AllowedBy controller;
  ready = λ item. ⊤;
  over = λ item. ⊥;
  left = left (shown controller);
}
