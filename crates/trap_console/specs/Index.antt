-- The index of rows by their keys.
use Rattle.std.specs.Prelude.{◌≡◌, ℕ, List, Some, slice_get}
use Rattle.std.specs.declared.cmp.Ordering.{Ordering}
use Rattle.std.specs.Ordering.{nat_cmp, ordering_then}
use Rattle.std.specs.Cmp.Lexicographic.{slice_cmp}
use Rattle.std.specs.BTreeMap.{BTreeMap, get}
use Rattle.trap_console.specs.declared.key.Key.{Key}
use Rattle.trap_console.specs.declared.row.Row.{Row}
use Rattle.trap_console.specs.Rows.{key_of}

-- the order in which keys are looked up
abbrev pub key_order : Key → Key → Ordering
key_order x y = ordering_then (slice_cmp nat_cmp x.guid y.guid) (ordering_then (nat_cmp x.sequence y.sequence) (nat_cmp x.timestamp y.timestamp))

-- each row is found by its key, which so is no other row's
abbrev pub IsIndexed : List Row → BTreeMap Key ℕ → Type 0
IsIndexed rows places = (place : ℕ) (row : Row) → slice_get rows place ≡ Some row → get key_order places (key_of row.body) ≡ Some place
