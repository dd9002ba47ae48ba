-- The rows told of a history as a whole: its traps in the order in which they arrived, and of them the first of each key.
use Rattle.std.specs.Prelude.{List, [], ◌∷◌, ◌++◌, not, Result, Ok, Err}
use Rattle.std.specs.List.{filter}
use Rattle.snmp_trap.specs.declared.refusal.Refusal.{Refusal}
use Rattle.pef_engine.specs.declared.entry.Entry.{Entry}
use Rattle.pef_engine.specs.declared.entry.Entry.TheVariants.{Item as Taken, Outcome}
use Rattle.trap_console.specs.declared.item.Item.{Item}
use Rattle.trap_console.specs.declared.item.Item.TheVariants.{Datagram, Open, Close}
use Rattle.trap_console.specs.declared.row.Row.{Row}
use Rattle.trap_console.specs.Received.{received}
use Rattle.trap_console.specs.Rows.{key_of, is_key}

abbrev pub traps_by : Result Row Refusal → List Row
traps_by (Ok row) = row ∷ []
traps_by (Err refused) = []

abbrev pub traps_in : Entry Item → List Row
traps_in (Taken (Datagram from octets)) = traps_by (received from octets)
traps_in (Taken (Open id count)) = []
traps_in (Taken Close) = []
traps_in (Outcome told) = []

-- the traps of a history, repeats too
abbrev pub traps_of : List (Entry Item) → List Row
traps_of [] = []
traps_of (entry ∷ H) = traps_in entry ++ traps_of H

-- the first of each key
abbrev pub firsts : List Row → List Row
firsts [] = []
firsts (trap ∷ traps) = trap ∷ filter (λ other. not (is_key (key_of trap.body) other)) (firsts traps)
