-- A range within a kept range.
use Rattle.std.proofs.Common.{◌≡◌, ℕ, ◌+◌, ◌-◌, ◌≤◌, List, take, drop, sym, ◌∙◌, ap, arith}
use Rattle.std.proofs.lemmas.List.{drop-take, take-take, drop-drop}

-- what lies within the first octets is the same where only those are kept
within : (xs : List ℕ) (first count kept : ℕ) → first + count ≤ kept → take count (drop first (take kept xs)) ≡ take count (drop first xs)
within xs first count kept le =
    let rest : first + (kept - first) ≡ kept = omega (arith, le) in
    ap (λ n. take count (drop first (take n xs))) (sym rest) ∙ ap (take count) (drop-take first (kept - first) xs) ∙ take-take count (kept - first) (drop first xs) (omega (arith, le))

-- so a range within the first octets of a row is that of the file, of which they are a part
pub part_of : (row file : List ℕ) (start kept place count : ℕ) → start ≤ place → place + count ≤ start + kept → take kept row ≡ take kept (drop start file) → take count (drop (place - start) row) ≡ take count (drop place file)
part_of row file start kept place count from end same =
    let le : (place - start) + count ≤ kept = omega (arith, from, end) in
    let behind : start + (place - start) ≡ place = omega (arith, from) in
    sym (within row (place - start) count kept le) ∙ ap (λ xs. take count (drop (place - start) xs)) same ∙ within (drop start file) (place - start) count kept le
    ∙ ap (take count) (drop-drop (place - start) start file) ∙ ap (λ n. take count (drop n file)) behind
