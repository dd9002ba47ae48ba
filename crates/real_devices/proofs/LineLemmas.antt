-- What a write of a line's first octets leaves.
use Rattle.std.proofs.Common.{◌≡◌, ◌++◌, ◌∙◌, ◌≤◌, ℕ, List, [], ◌∷◌, Bool, true, false, length, take, sym, ap, subst, inr, append_assoc, arith}
use Rattle.std.proofs.lemmas.List.{take_all}
use Rattle.real_devices.specs.Lines.{IsLine, EndsWhole, begun}

-- a line that begins behind a line's end is one
begun_is_line : (cut : Bool) (line : List ℕ) → IsLine line → IsLine (begun cut line)
begun_is_line true line is_line = (10 ∷ is_line.0, ap (λ rest. 10 ∷ rest) is_line.1)
begun_is_line false line is_line = is_line

-- behind a line the file ends whole
ends_whole : (before line : List ℕ) → IsLine line → EndsWhole (before ++ line)
ends_whole before line is_line =
    inr (before ++ is_line.0, ap (λ octets. before ++ octets) is_line.1 ∙ sym (append_assoc before is_line.0 (10 ∷ [])))

-- behind a whole line that was written in one the file ends whole
pub whole_write : (cut : Bool) (line before : List ℕ) (written : ℕ) → IsLine line → length (begun cut line) ≡ written →
    EndsWhole (before ++ take written (begun cut line))
whole_write cut line before written is_line all =
    let fits : length (begun cut line) ≤ written = omega arith in
    subst (λ octets. EndsWhole (before ++ octets)) (sym (take_all written (begun cut line) fits))
    (ends_whole before (begun cut line) (begun_is_line cut line is_line))
