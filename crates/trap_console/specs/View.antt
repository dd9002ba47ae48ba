-- What is said of one console.
use Rattle.std.specs.Prelude.{◌≡◌, ⊤, ℕ, List, [], ◌∷◌, Option, Some, None, IsSome, Result, Ok, Err}
use Rattle.board_core.specs.declared.step.Step.{Step}
use Rattle.snmp_trap.specs.declared.refusal.Refusal.{Refusal}
use Rattle.pef_engine.specs.declared.entry.Entry.{Entry}
use Rattle.pef_engine.specs.declared.entry.Entry.TheVariants.{Item as Taken, Outcome}
use Rattle.pef_engine.specs.MachineView.{MachineView}
use Rattle.pef_engine.specs.Scripts.{MayCome, script_from, script_of}
use Rattle.trap_console.specs.declared.console.Console.{Console}
use Rattle.trap_console.specs.declared.item.Item.{Item}
use Rattle.trap_console.specs.declared.item.Item.TheVariants.{Datagram, Open, Close}
use Rattle.trap_console.specs.declared.ledger.Ledger.{Ledger}
use Rattle.trap_console.specs.declared.row.Row.{Row}
use Rattle.trap_console.specs.Received.{received}
use Rattle.trap_console.specs.Heard.{rows_of, rows_with, heard_after, heard_with}
use Rattle.trap_console.specs.Histories.{ack_port, due_behind, pending, IsItem, IsOver}
use Rattle.trap_console.specs.Ledger.{IsReadyFor}
use Rattle.trap_console.specs.Report.{step_in, console_scripts}

-- it is the console of these settings and this history
pub record ShowsConsole (console : Console) (Z : List ℕ) (H : List (Entry Item)) : Type 0 where
  pub port_is : console.port ≡ ack_port Z
  pub rows_is : console.ledger.rows.items ≡ rows_of H
  pub script_is : console.script ≡ script_of console_scripts H
  pub heard_is : console.heard ≡ heard_after H
  pub due_is : console.due ≡ pending Z H

abbrev pub AllowedBy : Console → Entry Item → Type 0
AllowedBy console (Taken item) = (console.due ≡ None) × (MayCome console.script (step_in item) × IsItem item)
AllowedBy console (Outcome told) = IsSome console.due

-- what was received may be entered
abbrev pub IsReadyToEnter : Ledger → Result Row Refusal → Type 0
IsReadyToEnter ledger (Ok row) = IsReadyFor ledger row
IsReadyToEnter ledger (Err refused) = ⊤

abbrev pub IsReady : Ledger → Item → Type 0
IsReady ledger (Datagram from octets) = IsReadyToEnter ledger (received from octets)
IsReady ledger (Open id count) = ⊤
IsReady ledger Close = ⊤

abbrev pub HasRoomFor : Ledger → Entry Item → Type 0
HasRoomFor ledger (Taken item) = IsReady ledger item
HasRoomFor ledger (Outcome told) = ⊤

-- one acknowledgement, or none
abbrev pub left_of : Option Step → ℕ
left_of None = 0
left_of (Some step) = 1

abbrev pub view_of : Console → MachineView Item
view_of console = record {
  shows = ShowsConsole console;
  due = console.due;
  allowed = AllowedBy console;
  ready = IsReady console.ledger;
  over = IsOver console.ledger.rows.items;
  left = left_of console.due;
}

-- the console behind one more entry
pub record Continues (old new : Console) (entry : Entry Item) : Type 0 where
  pub port_is : new.port ≡ old.port
  pub rows_is : new.ledger.rows.items ≡ rows_with old.ledger.rows.items entry
  pub script_is : new.script ≡ script_from console_scripts old.script (entry ∷ [])
  pub heard_is : new.heard ≡ heard_with old.ledger.rows.items old.heard entry
  pub due_is : new.due ≡ due_behind old.port entry
