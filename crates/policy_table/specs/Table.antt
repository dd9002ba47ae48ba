-- The alert policy table as a list of entries: IPMI 2.0, section 17.11. Entries are numbered from 1. How many there are is this
-- project's choice, and so each definition takes their number.
use Rattle.std.specs.Prelude.{◌≡◌, ◌≢◌, ◌≤◌, ℕ, ◌-◌, ◌&&◌, nat_le, List, [], ◌∷◌, length, replicate, slice_get, Option, Some, None, if◌then◌else◌}
use Rattle.policy_table.specs.declared.fault.NoSuch.{NoSuch}

-- `count` entries of zeros
abbrev pub zero_entries : ℕ → List (List ℕ)
zero_entries count = replicate count (0 ∷ 0 ∷ 0 ∷ [])

-- why there is no entry of this number, where there is none
abbrev pub number_fault : ℕ → ℕ → Option NoSuch
number_fault count number = if nat_le 1 number && nat_le number count then None else Some (record { 0 = number })

abbrev pub entry_numbered : ℕ → List (List ℕ) → Option (List ℕ)
entry_numbered number entries = slice_get entries (number - 1)

-- The entry of this number is that one now, and every other stays.
pub record Replaces (number : ℕ) (entry : List ℕ) (old new : List (List ℕ)) : Type 0 where
  pub count : length new ≡ length old
  pub replaced : entry_numbered number new ≡ Some entry
  pub others : (n : ℕ) → n ≢ number → 1 ≤ n → entry_numbered n new ≡ entry_numbered n old
