-- The room that a ledger has.
use Rattle.std.specs.Prelude.{◌≡◌, ◌<◌, length, Some, None, vec_capacity}
use Rattle.std.specs.BTreeMap.{get}
use Rattle.trap_console.specs.declared.key.Key.{Key}
use Rattle.trap_console.specs.declared.ledger.Ledger.{Ledger}
use Rattle.trap_console.specs.declared.row.Row.{Row}
use Rattle.trap_console.specs.Index.{key_order}
use Rattle.trap_console.specs.Rows.{key_of, place_in, row_limit}

-- there is room for a row with this key
pub record HasRoom (ledger : Ledger) (key : Key) : Type 0 where
  pub few : length ledger.rows.items < row_limit
  pub reserved : length ledger.rows.items < vec_capacity ledger.rows
  pub indexed : get key_order ledger.places key ≡ Some (length ledger.rows.items)

-- a trap may be entered: it is no new row, or there is room for it
abbrev pub IsReadyFor : Ledger → Row → Type 0
IsReadyFor ledger row = place_in ledger.rows.items (key_of row.body) ≡ None → HasRoom ledger (key_of row.body)
