-- A text that is read whole.
use Rattle.std.specs.Prelude.{◌≡◌, ℕ, ◌<◌, ◌≤◌, List, ◌++◌, length, Option, Some, None, Vec}

-- the longest such text in octets
abbrev pub text_limit : ℕ
text_limit = 65536

-- this is the text, or the text is longer than that
abbrev pub IsWhole : {A : Type 0} → List ℕ → Option (Vec ℕ A) → Type 0
IsWhole text (Some read) = (read.items ≡ text) × (length text ≤ text_limit)
IsWhole text None = text_limit < length text

-- at most this number of octets of the text is taken, and the others are left
abbrev pub TakesAtMost : ℕ → List ℕ → Option (List ℕ) → Type 0
TakesAtMost most text source = (taken : List ℕ) × (rest : List ℕ) × (text ≡ taken ++ rest) × (source ≡ Some rest) × (length taken ≤ most)
