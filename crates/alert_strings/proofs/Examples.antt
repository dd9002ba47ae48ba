-- The definitions on worked strings and keys.
use Rattle.std.proofs.Common.{◌≡◌, ℕ, List, [], ◌∷◌, ◌++◌, replicate, Some, None, refl}
use Rattle.std.specs.Prelude.{codes, slice_set}
use Rattle.alert_strings.specs.declared.fault.StringFault.TheVariants.{NoSuch, NoBlock}
use Rattle.alert_strings.specs.Table.{number_fault, block_fault, block_place, filled, octets_of, text_of}
use Rattle.alert_strings.specs.Lookup.{string_for}

abbrev fan : List ℕ
fan = 0x66 ∷ 0x61 ∷ 0x6E ∷ []

-- strings 0 to 2 of two blocks, of which block 1 of string 1 is set
abbrev blocks : List (List ℕ)
blocks = slice_set (replicate 6 (replicate 16 0)) (block_place 2 1 1) (filled 16 fan)

pub block_1_of_string_1 : (octets_of 2 blocks 1 ≡ fan ++ replicate 29 0) × (octets_of 2 blocks 0 ≡ replicate 32 0) × (octets_of 2 blocks 2 ≡ replicate 32 0)
block_1_of_string_1 = (refl, refl, refl)

-- a text ends before the first 00h, and has 61 octets at most
pub texts :
    (text_of 2 blocks 1 ≡ fan) × (text_of 2 blocks 2 ≡ []) × (text_of 2 ((0x41 ∷ 0x00 ∷ 0x42 ∷ []) ∷ fan ∷ []) 0 ≡ 0x41 ∷ [])
    × (text_of 4 (replicate 4 (replicate 16 0x41)) 0 ≡ replicate 61 0x41)
    × (text_of 2 (replicate 2 (replicate 16 0x41)) 0 ≡ replicate 32 0x41)
texts = (refl, refl, refl, refl, refl)

-- a whole block isn't filled up
pub whole : filled 16 (codes "fan of the tower") ≡ codes "fan of the tower"
whole = refl

-- a number is refused before a block
pub refused :
    (block_fault 8 4 9 0 ≡ Some (NoSuch 9)) × (block_fault 8 4 8 0 ≡ Some (NoBlock 0)) × (block_fault 8 4 0 5 ≡ Some (NoBlock 5))
    × (block_fault 8 4 0 1 ≡ None) × (block_fault 8 4 8 4 ≡ None) × (number_fault 8 9 ≡ Some (NoSuch 9)) × (number_fault 8 0 ≡ None)
refused = (refl, refl, refl, refl, refl, refl, refl)

-- strings 1 and 3 have the key of filter 1 and set 2, and string 2 has it but for bit 7 of its octets, which don't count
abbrev keys : List (ℕ × ℕ)
keys = (1, 2) ∷ (1, 3) ∷ (0x81, 0x82) ∷ (1, 2) ∷ []

-- the least string from 1 on; without bit 7 the key is the string's number, and 0 is none
pub found :
    (string_for 8 keys 0x82 1 ≡ Some 2) × (string_for 8 keys 0x82 2 ≡ None) × (string_for 8 keys 0x83 1 ≡ Some 1)
    × (string_for 8 keys 0x02 1 ≡ Some 2) × (string_for 8 keys 0x08 9 ≡ Some 8) × (string_for 8 keys 0x09 1 ≡ None) × (string_for 8 keys 0x00 1 ≡ None)
found = (refl, refl, refl, refl, refl, refl, refl)
