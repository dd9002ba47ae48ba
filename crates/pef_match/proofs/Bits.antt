-- What the combined actions of filters say of the single ones.
use Rattle.std.proofs.Common.{◌≡◌, ℕ, zero, suc, ◌+◌, ◌<◌, ◌||◌, Bool, true, false, cond, max, List, [], ◌∷◌, ◌++◌, map, filter, ◌∙◌, ap, sym, refl, eqb, bit_and, length, take, get_or, arith}
use Rattle.std.specs.Int.{bit_at}
use Rattle.std.specs.List.{list_any}
use Rattle.std.specs.Int.Bits.{bit_or}
use Rattle.std.proofs.lemmas.Nat.Bits.{bit_at_or, bit_at-lt, bit_at-zero}
use Rattle.std.proofs.lemmas.List.{take_more, map-append}
use Rattle.std.proofs.lemmas.List.Elements.{filter-append}
use Rattle.std.proofs.lemmas.List.Folds.{list_any-append}
use Rattle.filter_table.specs.Entry.{actions}
use Rattle.filter_table.specs.BitTest.{is_match}
use Rattle.pef_match.specs.Job.{asked_by, has_bit}

greater_is_one : (x y : ℕ) → x < 2 → y < 2 → eqb (max x y) 1 ≡ (eqb x 1 || eqb y 1)
greater_is_one zero zero x_bit y_bit = refl
greater_is_one zero (suc zero) x_bit y_bit = refl
greater_is_one zero (suc (suc y)) x_bit y_bit = absurd (omega arith)
greater_is_one (suc zero) zero x_bit y_bit = refl
greater_is_one (suc zero) (suc zero) x_bit y_bit = refl
greater_is_one (suc zero) (suc (suc y)) x_bit y_bit = absurd (omega arith)
greater_is_one (suc (suc x)) y x_bit y_bit = absurd (omega arith)

or_bit : (a b n : ℕ) → eqb (bit_at (bit_or a b) n) 1 ≡ (eqb (bit_at a n) 1 || eqb (bit_at b n) 1)
or_bit a b n = ap (λ v. eqb v 1) (bit_at_or a b n) ∙ greater_is_one (bit_at a n) (bit_at b n) (bit_at-lt a n) (bit_at-lt b n)

or_false : (a : Bool) → (a || false) ≡ a
or_false true = refl
or_false false = refl

module _ (mask : ℕ) (event : List ℕ) (n : ℕ) where
  -- whether an octet of actions has the bit, under the mask
  abbrev asks : List ℕ → Bool
  asks f = eqb (bit_at (bit_and (actions f) mask) n) 1

  abbrev asked_bit : List (List ℕ) → Bool
  asked_bit filters = has_bit (asked_by filters mask event) n

  single : (m : Bool) (x : List ℕ) → is_match x event ≡ m → asked_bit (x ∷ []) ≡ cond m (asks x) false
  single true x is = ap (λ b. list_any (λ o. eqb (bit_at o n) 1) (map (λ f. bit_and (actions f) mask) (cond b (x ∷ []) []))) is ∙ or_false (asks x)
  single false x is = ap (λ b. list_any (λ o. eqb (bit_at o n) 1) (map (λ f. bit_and (actions f) mask) (cond b (x ∷ []) []))) is

  asked-append : (xs ys : List (List ℕ)) → asked_bit (xs ++ ys) ≡ (asked_bit xs || asked_bit ys)
  asked-append xs ys =
      let under = λ (f : List ℕ). bit_and (actions f) mask in
      let has = λ (o : ℕ). eqb (bit_at o n) 1 in
      let test = λ (f : List ℕ). is_match f event in
      ap (λ l. list_any has (map under l)) (filter-append test xs ys)
      ∙ ap (λ l. list_any has l) (map-append under (filter test xs) (filter test ys))
      ∙ list_any-append has (map under (filter test xs)) (map under (filter test ys))

  module _ (filters : List (List ℕ)) (i asked : ℕ) (within : i < length filters) (before : eqb (bit_at asked n) 1 ≡ asked_bit (take i filters)) where
    longer : (m : Bool) (x : List ℕ) → x ≡ get_or filters i x → is_match x event ≡ m
        → (eqb (bit_at asked n) 1 || cond m (asks x) false) ≡ asked_bit (take (i + 1) filters)
    longer m x here is =
        ap (λ b. b || cond m (asks x) false) before
        ∙ ap (λ b. asked_bit (take i filters) || b) (sym (single m x is))
        ∙ sym (asked-append (take i filters) (x ∷ []))
        ∙ sym (ap asked_bit (take_more filters i x within ∙ ap (λ y. take i filters ++ y ∷ []) (sym here)))

    -- the bits of one filter more join those so far
    pub asked_more : (x : List ℕ) → x ≡ get_or filters i x
        → eqb (bit_at (bit_or asked (cond (is_match x event) (bit_and (actions x) mask) 0)) n) 1 ≡ asked_bit (take (i + 1) filters)
    asked_more x here =
        or_bit asked (cond (is_match x event) (bit_and (actions x) mask) 0) n
        ∙ ap (λ b. eqb (bit_at asked n) 1 || b) (of_one (is_match x event))
        ∙ longer (is_match x event) x here refl
      where
        of_one : (m : Bool) → eqb (bit_at (cond m (bit_and (actions x) mask) 0) n) 1 ≡ cond m (asks x) false
        of_one true = refl
        of_one false = ap (λ v. eqb v 1) (bit_at-zero n)
