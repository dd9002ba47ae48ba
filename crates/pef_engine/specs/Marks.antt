-- The octets of what every scripted machine's file has: the opening and the closing of a script, and outcomes. The tags and the order of
-- the octets are this project's own.
use Rattle.std.specs.Prelude.{◌≡◌, ⊤, ℕ, ◌<◌, ◌^◌, List, [], ◌∷◌, ◌++◌, Option, Some}
use Rattle.std.specs.Int.{to_le_bytes, w32}
use Rattle.board_core.specs.declared.step.Told.{Told}
use Rattle.board_core.specs.declared.step.Told.TheVariants.{Done, Failed}
use Rattle.pef_engine.specs.declared.marks.Mark.{Mark}
use Rattle.pef_engine.specs.declared.marks.Mark.TheVariants.{Open, Close, Outcome}

-- numbers with the least significant octet first
abbrev pub mark_octets : Mark → List ℕ
mark_octets (Open id count) = 0x05 ∷ (to_le_bytes w32 id ++ to_le_bytes w32 count)
mark_octets Close = 0x06 ∷ []
mark_octets (Outcome Done) = 0x10 ∷ 0x00 ∷ []
mark_octets (Outcome Failed) = 0x10 ∷ 0x01 ∷ []

-- numbers of 32 bits
abbrev pub IsMark : Mark → Type 0
IsMark (Open id count) = (id < 2 ^ 32) × (count < 2 ^ 32)
IsMark other = ⊤

-- the mark whose octets these are, and none where there is none
pub record ReadsMark (octets : List ℕ) (mark : Option Mark) : Type 0 where
  pub found : (m : Mark) → IsMark m → mark_octets m ≡ octets → mark ≡ Some m
  pub right : (m : Mark) → mark ≡ Some m → IsMark m × (mark_octets m ≡ octets)
