-- The first element of a list that passes.
use Rattle.std.proofs.Common.{◌≡◌, ◌⊎◌, ℕ, zero, suc, ◌<◌, ◌≤◌, Bool, true, false, cond, List, [], ◌∷◌, ◌++◌, length, Option, Some, None, refl, sym, ◌∙◌, ap, subst, inl, inr, arith}
use Rattle.std.specs.List.{slice_get, position, position_or_len}
use Rattle.std.proofs.lemmas.Bool.{cases_lt, lt-ltb, le-ltb, both_ways}
use Rattle.std.proofs.lemmas.List.Sums.{passes_at_first, fails_before_first}
use Rattle.std.proofs.lemmas.Option.{slice_get_cases, slice_get_within, get_or_from_slice_get}

some_is : {A : Type 0} (x y : A) → Some x ≡ Some y → x ≡ y
some_is x y e = cc

some_none : {A : Type 0} (x : A) (o : Option A) → o ≡ None → o ≡ Some x → ⊥
some_none x o none some = cc (none, some)

module _ {X : Type 0} (p : X → Bool) where
  first_passes : (xs : List X) → position_or_len p xs < length xs → position p xs ≡ Some (position_or_len p xs)
  first_passes xs inside = ap (λ b. cond b (Some (position_or_len p xs)) None) (lt-ltb _ _ inside)

  none_passes : (xs : List X) → length xs ≤ position_or_len p xs → position p xs ≡ None
  none_passes xs past = ap (λ b. cond b (Some (position_or_len p xs)) None) (le-ltb _ _ past)

  -- the element at the position passes
  pub passes_at : (xs : List X) (j : ℕ) → position p xs ≡ Some j → (x : X) × (slice_get xs j ≡ Some x) × (p x ≡ true)
  passes_at xs j at = elim (cases_lt (position_or_len p xs) (length xs)) [
    | inl inside ↦
        let same : position_or_len p xs ≡ j = some_is _ _ (sym (first_passes xs inside) ∙ at) in
        elim (slice_get_cases xs (position_or_len p xs)).1 [
          | inl x ↦ (
            x.0,
            subst (λ k. slice_get xs k ≡ Some x.0) same x.2,
            subst (λ y. p y ≡ true) x.3 (passes_at_first p xs x.0 inside),
          )
          | inr past ↦ absurd (omega (arith, inside, past.0))
        ]
    | inr past ↦ absurd (some_none j (position p xs) (none_passes xs past) at)
  ]

  -- where an element passes there is a position
  pub some_passes : (xs : List X) (i : ℕ) (x : X) → slice_get xs i ≡ Some x → p x ≡ true → (j : ℕ) × (position p xs ≡ Some j)
  some_passes xs i x got passes = elim (cases_lt (position_or_len p xs) (length xs)) [
    | inl inside ↦ (position_or_len p xs, first_passes xs inside)
    | inr past ↦
        let within : i < length xs = slice_get_within xs i x got in
        let fails = fails_before_first p xs i x (omega (arith, within, past)) in
        absurd (both_ways (p x) (subst (λ y. p y ≡ false) (get_or_from_slice_get xs i x x got) fails) passes)
  ]

-- an element of a list with one more at its end is one of the list, or that one
pub push_cases : {X : Type 0} (xs : List X) (y : X) (i : ℕ) (x : X) → slice_get (xs ++ y ∷ []) i ≡ Some x
    → (slice_get xs i ≡ Some x) ⊎ ((i ≡ length xs) × (y ≡ x))
push_cases [] y zero x e = inr (refl, some_is y x e)
push_cases [] y (suc i) x e = absurd cc
push_cases (z ∷ xs) y zero x e = inl e
push_cases (z ∷ xs) y (suc i) x e = elim (push_cases xs y i x e) [ inl got ↦ inl got | inr last ↦ inr (omega (arith, last.0), last.1) ]
