-- Octets and their bits, as the standard counts them.
use Rattle.std.specs.Prelude.{ℕ, ◌+◌, ◌-◌, ◌/◌, ◌%◌, ◌^◌, List, slice_index}

-- octet n of a list, counted from 1
abbrev pub octet : ℕ → List ℕ → ℕ
octet n octets = slice_index octets (n - 1)

-- bits high to low of a number
abbrev pub bits : ℕ → ℕ → ℕ → ℕ
bits high low value = value / 2 ^ low % 2 ^ (high + 1 - low)
