-- What a history of the console says: its rows, and what its last item was.
use Rattle.std.specs.Prelude.{List, [], ◌∷◌, fold}
use Rattle.pef_engine.specs.declared.entry.Entry.{Entry}
use Rattle.pef_engine.specs.declared.entry.Entry.TheVariants.{Item as Taken, Outcome}
use Rattle.trap_console.specs.declared.heard.Heard.{Heard}
use Rattle.trap_console.specs.declared.heard.Heard.TheVariants.{Nothing}
use Rattle.trap_console.specs.declared.item.Item.{Item}
use Rattle.trap_console.specs.declared.item.Item.TheVariants.{Datagram, Open, Close}
use Rattle.trap_console.specs.declared.row.Row.{Row}
use Rattle.trap_console.specs.Received.{received}
use Rattle.trap_console.specs.Rows.{rows_by, heard_by}

-- the rows behind one more entry
abbrev pub rows_with : List Row → Entry Item → List Row
rows_with rows (Taken (Datagram from octets)) = rows_by rows (received from octets)
rows_with rows (Taken (Open id count)) = rows
rows_with rows (Taken Close) = rows
rows_with rows (Outcome told) = rows

-- the rows of a history, in the order in which they arrived
abbrev pub rows_of : List (Entry Item) → List Row
rows_of H = fold rows_with [] H

-- what the last item was, where this was heard before and these were the rows
abbrev pub heard_with : List Row → Heard → Entry Item → Heard
heard_with rows heard (Taken (Datagram from octets)) = heard_by rows (received from octets)
heard_with rows heard (Taken (Open id count)) = Nothing
heard_with rows heard (Taken Close) = Nothing
heard_with rows heard (Outcome told) = heard

abbrev pub heard_behind : List Row → Heard → List (Entry Item) → Heard
heard_behind rows heard [] = heard
heard_behind rows heard (entry ∷ H) = heard_behind (rows_with rows entry) (heard_with rows heard entry) H

-- what the last item was, and Nothing where none was taken
abbrev pub heard_after : List (Entry Item) → Heard
heard_after H = heard_behind [] Nothing H
