-- A text in the tail of a body. PET 1.0 lets a tail hold fields that each begin with a length octet, and C1h ends them. In which field a
-- text stands, that 00h ends it, and that a tail of another form has no text, is this project's rule.
use Rattle.std.specs.Prelude.{ℕ, ◌+◌, ◌-◌, Bool, ◌==◌, ◌&&◌, nat_le, nat_lt, List, [], ◌∷◌, ◌++◌, length, take, slice_index, if◌then◌else◌}

-- the end alone for the empty text; else the length octet, the text, 00h and the end
abbrev pub tail_for : List ℕ → List ℕ
tail_for text = if length text == 0 then 0xC1 ∷ [] else (0xC1 + length text) ∷ text ++ 0x00 ∷ 0xC1 ∷ []

-- a text of n octets stands behind a length octet: n is 1 to 61, and 00h follows the n octets
abbrev pub is_text : ℕ → List ℕ → Bool
is_text n behind = nat_le 1 n && nat_le n 61 && nat_lt n (length behind) && (slice_index behind n == 0x00)

-- the text with which a tail begins, empty where it begins with none
abbrev pub text_in : List ℕ → List ℕ
text_in [] = []
text_in (first ∷ behind) = if is_text (first - 0xC1) behind then take (first - 0xC1) behind else []
