-- Which string a string key of the alert policy table names: IPMI 2.0, sections 17.11 and 30.3. That a key which isn't found names none is
-- this project's choice.
use Rattle.std.specs.Prelude.{ℕ, ◌+◌, ◌%◌, Bool, ◌==◌, ◌&&◌, nat_le, if◌then◌else◌, List, drop, Option, Some, None}
use Rattle.std.specs.List.{position}
use Rattle.std.specs.Option.{option_map}

-- bits 6:0 of an octet
abbrev pub bits_6_0 : ℕ → ℕ
bits_6_0 octet = octet % 128

-- A string's key is the number of an event filter and that of a string set, each in bits 6:0 of its octet.
abbrev pub has_key : ℕ → ℕ → (ℕ × ℕ) → Bool
has_key filter set key = (bits_6_0 key.0 == filter) && (bits_6_0 key.1 == set)

-- the least string, from 1 on, that has this key; key 0 is that of string 0
abbrev pub first_with : List (ℕ × ℕ) → ℕ → ℕ → Option ℕ
first_with keys filter set = option_map (λ place. place + 1) (position (has_key filter set) (drop 1 keys))

-- Bit 7 asks for the string of the event's filter in the string set that bits 6:0 name; without it, bits 6:0 are the string's number, and
-- 0 is none.
abbrev pub string_for : ℕ → List (ℕ × ℕ) → ℕ → ℕ → Option ℕ
string_for strings keys key filter =
    if nat_le 128 key then first_with keys filter (bits_6_0 key)
    else (if nat_le 1 (bits_6_0 key) && nat_le (bits_6_0 key) strings then Some (bits_6_0 key) else None)
