-- The table of event filters (IPMI 2.0, section 17.7), whose filters are counted from 1. How many there are is an argument: this
-- product has 16. That a number without a filter is refused as such is this project's rule.
use Rattle.std.specs.Prelude.{◌≡◌, ◌≢◌, ℕ, ◌-◌, Bool, ◌&&◌, ◌==◌, nat_le, List, [], replicate, slice_index_or, Option, Some, None, if◌then◌else◌}
use Rattle.filter_table.specs.declared.fault.NoSuch.{NoSuch}

-- a number from 1 to this count
abbrev pub is_number : ℕ → ℕ → Bool
is_number count n = nat_le 1 n && nat_le n count

-- why there is no filter of this number, where there is none
abbrev pub number_fault : ℕ → ℕ → Option NoSuch
number_fault count n = if is_number count n then None else Some (record { 0 = n })

-- the filter of this number, no octets where there is none
abbrev pub numbered : List (List ℕ) → ℕ → List ℕ
numbered filters n = if n == 0 then [] else slice_index_or filters (n - 1) []

-- `count` filters of zeros
abbrev pub no_filters : ℕ → List (List ℕ)
no_filters count = replicate count (replicate 20 0)

-- One table became another: this number has this filter, and each other number the filter that it had.
pub record Replaces (old new : List (List ℕ)) (n : ℕ) (filter : List ℕ) : Type 0 where
  pub placed : numbered new n ≡ filter
  pub others : (k : ℕ) → k ≢ n → numbered new k ≡ numbered old k
