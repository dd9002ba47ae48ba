-- What the histories of a console mean. The kind of its file, its settings and the spelling of its entries are this project's own.
use Rattle.std.specs.Prelude.{◌≡◌, ⊤, ℕ, ◌≤◌, ◌<◌, ◌^◌, true, List, ◌∷◌, ◌++◌, length, Option, None, fold}
use Rattle.std.specs.Int.{to_le_bytes, from_le_bytes, w16}
use Rattle.board_core.specs.declared.step.Step.{Step}
use Rattle.console_settings.specs.Settings.{console}
use Rattle.pef_engine.specs.declared.entry.Entry.{Entry}
use Rattle.pef_engine.specs.declared.entry.Entry.TheVariants.{Item as Taken, Outcome}
use Rattle.pef_engine.specs.declared.marks.Mark.TheVariants.{Open as Opened, Close as Closed, Outcome as Told}
use Rattle.pef_engine.specs.Marks.{mark_octets}
use Rattle.pef_engine.specs.Rules.{Rules}
use Rattle.pef_engine.specs.Scripts.{MayCome, script_of}
use Rattle.trap_console.specs.declared.item.Item.{Item}
use Rattle.trap_console.specs.declared.item.Item.TheVariants.{Datagram, Open, Close}
use Rattle.trap_console.specs.declared.row.Row.{Row}
use Rattle.trap_console.specs.Received.{received, due_by}
use Rattle.trap_console.specs.Rows.{IsNew, row_limit}
use Rattle.trap_console.specs.Heard.{rows_of}
use Rattle.trap_console.specs.Report.{step_in, console_scripts}

-- the port for acknowledgements: the two octets of the settings, the least significant first
abbrev pub ack_port : List ℕ → ℕ
ack_port Z = from_le_bytes w16 Z

-- the step that is due behind this entry, where it comes last: an acknowledgement behind a trap, and none behind any other
abbrev pub due_behind : ℕ → Entry Item → Option Step
due_behind port (Taken (Datagram from octets)) = due_by port (received from octets)
due_behind port (Taken (Open id count)) = None
due_behind port (Taken Close) = None
due_behind port (Outcome told) = None

-- the step that is due behind a history, by its last entry
abbrev pub pending : List ℕ → List (Entry Item) → Option Step
pending Z H = fold (λ due entry. due_behind (ack_port Z) entry) None H

-- four octets, a number of 16 bits and at most 512 octets; numbers of 32 bits
abbrev pub IsItem : Item → Type 0
IsItem (Datagram from octets) = (length from.ip ≡ 4) × (from.port < 2 ^ 16) × (length octets ≤ 512)
IsItem (Open id count) = (id < 2 ^ 32) × (count < 2 ^ 32)
IsItem Close = ⊤

abbrev pub IsEntry : Entry Item → Type 0
IsEntry (Taken item) = IsItem item
IsEntry (Outcome told) = ⊤

-- the octets of an entry: of a datagram its tag, its sender's address and port, and its octets; of the others those of every machine
-- that takes scripts
abbrev pub encode : Entry Item → List ℕ
encode (Taken (Datagram from octets)) = 0x21 ∷ (from.ip ++ (to_le_bytes w16 from.port ++ octets))
encode (Taken (Open id count)) = mark_octets (Opened id count)
encode (Taken Close) = mark_octets Closed
encode (Outcome told) = mark_octets (Told told)

-- the item would be a row more
abbrev pub AddsRow : List Row → Item → Type 0
AddsRow rows (Datagram from octets) = IsNew rows (received from octets)
AddsRow rows (Open id count) = ⊥
AddsRow rows Close = ⊥

-- it would be a row more than the 65,536 that there may be
abbrev pub IsOver : List Row → Item → Type 0
IsOver rows item = AddsRow rows item × (row_limit ≤ length rows)

-- An item comes where the rule of scripts lets it come.
abbrev pub console_rules : Rules Item
console_rules = record {
  kind = console;
  is_entry = λ entry. IsEntry entry;
  encode = encode;
  pending = pending;
  may_take = λ Z H item. MayCome (script_of console_scripts H) (step_in item) × IsItem item;
  over = λ Z H item. IsOver (rows_of H) item;
  takes_memory = true;
}
