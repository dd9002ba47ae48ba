-- The octets that are written. Each length is below 256.
use Rattle.std.specs.Prelude.{ℕ, ◌-◌, ◌^◌, List, [], ◌∷◌, ◌++◌, length, drop, nat_lt, if◌then◌else◌}
use Rattle.std.specs.Int.{w32, to_be_bytes}
use Rattle.snmp_trap.specs.declared.trap.Trap.{Trap}
use Rattle.snmp_trap.specs.Grammar.{pet_enterprise, body_name, Seen}

abbrev pub fields : Trap → Seen
fields t = record { community = t.community; agent = t.agent; specific = t.specific; ticks = t.ticks; body = t.body }

abbrev pub length_octets : ℕ → List ℕ
length_octets n = if nat_lt n 128 then n ∷ [] else 0x81 ∷ n ∷ []

abbrev pub element : ℕ → List ℕ → List ℕ
element tag contents = tag ∷ length_octets (length contents) ++ contents

-- how many octets a number needs
abbrev pub number_length : ℕ → ℕ
number_length n =
    if nat_lt n (2 ^ 7) then 1 else if nat_lt n (2 ^ 15) then 2 else if nat_lt n (2 ^ 23) then 3 else if nat_lt n (2 ^ 31) then 4 else 5

-- the last octets of the number in five
abbrev pub number_octets : ℕ → List ℕ
number_octets n = drop (5 - number_length n) (0 ∷ to_be_bytes w32 n)

unfoldable pub number_element : ℕ → ℕ → List ℕ
number_element tag n = element tag (number_octets n)

-- the list with the one binding
unfoldable pub list : List ℕ → List ℕ
list body = element 48 (element 48 (element 6 body_name ++ element 4 body))

unfoldable pub trap_part : Seen → List ℕ
trap_part v =
    element 6 pet_enterprise ++ (element 64 v.agent ++ (number_element 2 6 ++ (number_element 2 v.specific ++ (number_element 67 v.ticks ++ list v.body))))

unfoldable pub spelling : Seen → List ℕ
spelling v = element 48 (number_element 2 0 ++ (element 4 v.community ++ element 164 (trap_part v)))
