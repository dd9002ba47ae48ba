-- The rows of a console. That a GUID, a sequence number and a timestamp tell traps apart follows PET 1.0, by which a sender gives each
-- alert its own; that a row is a trap as it first arrived, and that there are at most 65,536 rows, is this project's rule.
use Rattle.std.specs.Prelude.{◌≡◌, ℕ, ◌+◌, Bool, ◌&&◌, ◌==◌, bytes_eq, List, [], ◌∷◌, ◌++◌, length, Option, Some, None, is_some, Result, Ok, Err, if◌then◌else◌}
use Rattle.std.specs.List.{position}
use Rattle.snmp_trap.specs.declared.refusal.Refusal.{Refusal}
use Rattle.pet_body.specs.declared.body.Body.{Body}
use Rattle.trap_console.specs.declared.heard.Heard.{Heard}
use Rattle.trap_console.specs.declared.heard.Heard.TheVariants.{New, Again, Refused}
use Rattle.trap_console.specs.declared.key.Key.{Key}
use Rattle.trap_console.specs.declared.row.Row.{Row}

-- what tells traps apart: octets 1 to 16, 17 and 18, and 19 to 22 of the body
abbrev pub key_of : Body → Key
key_of body = record { guid = body.guid; sequence = body.sequence; timestamp = body.timestamp }

-- the row has this key, all three parts of it
abbrev pub is_key : Key → Row → Bool
is_key key row = bytes_eq row.body.guid key.guid && (row.body.sequence == key.sequence && row.body.timestamp == key.timestamp)

-- the place of the first row with this key
abbrev pub place_in : List Row → Key → Option ℕ
place_in rows key = position (is_key key) rows

-- the rows behind a trap: it stands at the end where no row has its key
abbrev pub rows_and : List Row → Row → List Row
rows_and rows row = if is_some (place_in rows (key_of row.body)) then rows else rows ++ row ∷ []

abbrev pub rows_by : List Row → Result Row Refusal → List Row
rows_by rows (Ok row) = rows_and rows row
rows_by rows (Err refused) = rows

-- what a trap was, where the first row with its key is at this place of so many
abbrev pub heard_at : ℕ → Option ℕ → Heard
heard_at count None = New (count + 1)
heard_at count (Some place) = Again (place + 1)

abbrev pub heard_by : List Row → Result Row Refusal → Heard
heard_by rows (Ok row) = heard_at (length rows) (place_in rows (key_of row.body))
heard_by rows (Err refused) = Refused refused

-- the greatest number of rows
abbrev pub row_limit : ℕ
row_limit = 65536

-- it would be a row more
abbrev pub IsNew : List Row → Result Row Refusal → Type 0
IsNew rows (Ok row) = place_in rows (key_of row.body) ≡ None
IsNew rows (Err refused) = ⊥
