-- What the octets of a gate, once read, say of the file.
use Rattle.std.proofs.Common.{◌≡◌, ℕ, ◌+◌, ◌*◌, ◌/◌, ◌%◌, ◌<◌, ◌≤◌, List, [], ◌∷◌, ◌++◌, length, get_or, take, drop, sym, ◌∙◌, ap, arith, take-append-drop}
use Rattle.std.proofs.lemmas.List.{drop_more}

-- the three octets at a place
pub three_at : (file : List ℕ) (place : ℕ) → place + 3 ≤ length file → drop place file ≡ get_or file place 0 ∷ get_or file (place + 1) 0 ∷ get_or file (place + 2) 0 ∷ drop (place + 3) file
three_at file place fits =
    let two : place + 1 + 1 ≡ place + 2 = omega arith in
    let three : place + 2 + 1 ≡ place + 3 = omega arith in
    drop_more file place 0 (omega (arith, fits))
    ∙ ap (λ l. get_or file place 0 ∷ l) (drop_more file (place + 1) 0 (omega (arith, fits)) ∙ ap (λ k. get_or file (place + 1) 0 ∷ drop k file) two)
    ∙ ap (λ l. get_or file place 0 ∷ get_or file (place + 1) 0 ∷ l) (drop_more file (place + 2) 0 (omega (arith, fits)) ∙ ap (λ k. get_or file (place + 2) 0 ∷ drop k file) three)

-- an open gate with a length behind it
pub open_gate : (file : List ℕ) (place n : ℕ) (into tail : List ℕ) → into ≡ take (length into) (drop place file) → length into ≡ 3 → place + 3 ≤ length file → get_or (into ++ tail) 0 0 ≡ 165
    → n ≡ get_or (into ++ tail) 1 0 + get_or (into ++ tail) 2 0 * 256 → get_or (into ++ tail) 1 0 < 256 → file ≡ take place file ++ 165 ∷ (n % 256) ∷ (n / 256) ∷ drop (place + 3) file
open_gate file place n into tail read three fits is_open is_length low =
    let g = get_or file place 0 in
    let a = get_or file (place + 1) 0 in
    let b = get_or file (place + 2) 0 in
    let into_is : into ≡ g ∷ a ∷ b ∷ [] = read ∙ ap (λ k. take k (drop place file)) three ∙ ap (take 3) (three_at file place fits) in
    let g_is : g ≡ 165 = sym (ap (λ l. get_or (l ++ tail) 0 0) into_is) ∙ is_open in
    let a_is : get_or (into ++ tail) 1 0 ≡ a = ap (λ l. get_or (l ++ tail) 1 0) into_is in
    let b_is : get_or (into ++ tail) 2 0 ≡ b = ap (λ l. get_or (l ++ tail) 2 0) into_is in
    let low_is : a ≡ n % 256 = omega (arith, is_length, low, a_is, b_is) in
    let high_is : b ≡ n / 256 = omega (arith, is_length, low, a_is, b_is) in
    sym (take-append-drop place file) ∙ ap (λ l. take place file ++ l) (three_at file place fits) ∙ (λ i. take place file ++ g_is i ∷ low_is i ∷ high_is i ∷ drop (place + 3) file)
