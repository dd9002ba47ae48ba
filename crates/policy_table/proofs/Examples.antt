-- The definitions on worked entries.
use Rattle.std.proofs.Common.{◌≡◌, ℕ, List, [], ◌∷◌, Some, None, length, refl, arith}
use Rattle.policy_table.specs.Entry.{policy_number, IsEnabled, policy, channel, destination, string_key}
use Rattle.policy_table.specs.Table.{zero_entries, number_fault, entry_numbered}

-- policy number 1, enabled, policy 3, channel 2, destination 1, string set 2
abbrev entry : List ℕ
entry = 0x1B ∷ 0x21 ∷ 0x82 ∷ []

in_force : (policy_number entry ≡ 1) × IsEnabled entry × (policy entry ≡ 3)
in_force = (refl, refl, refl)

where_to : (channel entry ≡ 2) × (destination entry ≡ 1) × (string_key entry ≡ 0x82)
where_to = (refl, refl, refl)

-- bit 3 alone is 0
disabled : ¬ IsEnabled (0xF7 ∷ 0xFF ∷ 0xFF ∷ [])
disabled on = omega (arith, on)

sixteen : (length (zero_entries 16) ≡ 16) × (entry_numbered 16 (zero_entries 16) ≡ Some (0 ∷ 0 ∷ 0 ∷ [])) × (entry_numbered 17 (zero_entries 16) ≡ None)
sixteen = (refl, refl, refl)

-- numbers count from 1
numbered : (entry_numbered 1 (entry ∷ zero_entries 2) ≡ Some entry) × (entry_numbered 2 (entry ∷ zero_entries 2) ≡ Some (0 ∷ 0 ∷ 0 ∷ []))
numbered = (refl, refl)

taken : (number_fault 16 1 ≡ None) × (number_fault 16 16 ≡ None)
taken = (refl, refl)

refused : (number_fault 16 0 ≡ Some (record { 0 = 0 })) × (number_fault 16 17 ≡ Some (record { 0 = 17 }))
refused = (refl, refl)
