-- What of a text was read so far.
use Rattle.std.specs.Prelude.{◌≡◌, ℕ, List, ◌++◌, Option}
use Rattle.script_text.specs.Reading.{HasLeft}

-- these octets of the text were read, and the others are left
pub record IsReading (text held : List ℕ) (source : Option (List ℕ)) (line : List ℕ) : Type 0 where
  pub rest : List ℕ
  pub left : HasLeft held source rest
  pub whole : text ≡ line ++ rest
