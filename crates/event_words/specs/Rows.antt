-- Rows of the standard's tables: a code, and its words.
use Rattle.std.specs.Prelude.{ℕ, ◌==◌, List, [], ◌∷◌, ◌++◌, Option, Some, None, codes, if◌then◌else◌}
use Rattle.hex.specs.Hex.{encode_lower}

abbrev pub Row : Type 0
Row = ℕ × List ℕ

-- the words at a code: none where no row has it
abbrev pub row_at : List Row → ℕ → Option (List ℕ)
row_at [] code = None
row_at ((number, words) ∷ rows) code = if code == number then Some words else row_at rows code

-- words, and a code behind them as two hexadecimal digits and h
abbrev pub coded : List ℕ → ℕ → List ℕ
coded words code = words ++ encode_lower (code ∷ []) ++ codes "h"
