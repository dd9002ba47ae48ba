-- The fields of an alert policy entry: IPMI 2.0, section 17.11, whose table of an entry counts octets from 1.
use Rattle.std.specs.Prelude.{◌≡◌, ℕ, ◌+◌, ◌-◌, ◌/◌, ◌%◌, ◌^◌, List, slice_index}

-- octet n of an entry, counted from 1
abbrev pub octet : ℕ → List ℕ → ℕ
octet n entry = slice_index entry (n - 1)

-- bits high to low of a number
abbrev pub bits : ℕ → ℕ → ℕ → ℕ
bits high low value = value / 2 ^ low % 2 ^ (high + 1 - low)

-- bits 7:4 of octet 1
abbrev pub policy_number : List ℕ → ℕ
policy_number entry = bits 7 4 (octet 1 entry)

-- bit 3 of octet 1
abbrev pub IsEnabled : List ℕ → Type 0
IsEnabled entry = bits 3 3 (octet 1 entry) ≡ 1

-- bits 2:0 of octet 1
abbrev pub policy : List ℕ → ℕ
policy entry = bits 2 0 (octet 1 entry)

-- bits 7:4 of octet 2
abbrev pub channel : List ℕ → ℕ
channel entry = bits 7 4 (octet 2 entry)

-- bits 3:0 of octet 2
abbrev pub destination : List ℕ → ℕ
destination entry = bits 3 0 (octet 2 entry)

-- octet 3
abbrev pub string_key : List ℕ → ℕ
string_key entry = octet 3 entry
