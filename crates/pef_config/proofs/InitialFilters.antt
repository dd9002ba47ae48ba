-- The table of filters in which filter 1 alone was set.
use Rattle.std.proofs.Common.{◌≡◌, ◌≢◌, ℕ, zero, suc, ◌-◌, ◌<◌, ◌≤◌, ◌∙◌, ◌⊎◌, ap, sym, subst, inl, inr, refl, true, false, not, cond, List, [], replicate, get_or, arith, eqb}
use Rattle.std.proofs.lemmas.Bool.{cases_eq, cases_lt}
use Rattle.std.proofs.lemmas.Bool.Decides.{nat_tests}
use Rattle.std.proofs.lemmas.List.{get_or-replicate, get_or_past}
use Rattle.filter_table.specs.Filters.{is_number, numbered, no_filters, Replaces}
use Rattle.pef_config.proofs.Numbered.{numbered-one_on}
use Rattle.pef_config.specs.declared.initial.Initial.{Initial}
use Rattle.pef_config.specs.Places.{our_sizes, initial_filter}

pub is_number-within : (n : ℕ) → 1 ≤ n → n ≤ 16 → is_number 16 n ≡ true
is_number-within n low high = grind (arith, nat_tests)

pub is_number-past : (n : ℕ) → 16 < n → is_number 16 n ≡ false
is_number-past n high = grind (arith, nat_tests)

not_one : (n : ℕ) → n ≢ 1 → eqb n 1 ≡ false
not_one n other = grind (arith, nat_tests)

module _ (initial : Initial) (filters : List (List ℕ)) (replaced : Replaces (no_filters 16) filters 1 initial.filter) where
  empty : (n : ℕ) → 16 < n → get_or (no_filters 16) (n - 1) [] ≡ initial_filter our_sizes initial n
  empty n past =
      get_or_past (no_filters 16) (n - 1) [] (omega arith)
      ∙ ap (λ b. cond (not b) [] (cond (eqb n 1) initial.filter (replicate 20 0))) (sym (is_number-past n past))

  zeros : (n : ℕ) → 1 ≤ n → n ≤ 16 → n ≢ 1 → get_or (no_filters 16) (n - 1) [] ≡ initial_filter our_sizes initial n
  zeros n low high other =
      get_or-replicate 16 (n - 1) (replicate 20 0) [] (omega arith)
      ∙ ap (λ b. cond b initial.filter (replicate 20 0)) (sym (not_one n other))
      ∙ ap (λ b. cond (not b) [] (cond (eqb n 1) initial.filter (replicate 20 0))) (sym (is_number-within n low high))

  other_filter : (n : ℕ) → 1 ≤ n → n ≢ 1 → numbered filters n ≡ initial_filter our_sizes initial n
  other_filter n low other =
      replaced.others n other ∙ numbered-one_on (no_filters 16) n low
      ∙ elim (cases_lt 16 n) [ inl past ↦ empty n past | inr within ↦ zeros n low within other ]

  pub initial_filters : (n : ℕ) → numbered filters n ≡ initial_filter our_sizes initial n
  initial_filters zero = refl
  initial_filters (suc n) = by_cases (cases_eq (suc n) 1)
    where
      by_cases : (suc n ≡ 1) ⊎ (suc n ≢ 1) → numbered filters (suc n) ≡ initial_filter our_sizes initial (suc n)
      by_cases (inl one) = let P : ℕ → Type 0 = λ m. numbered filters m ≡ initial_filter our_sizes initial m in subst P (sym one) replaced.placed
      by_cases (inr other) = other_filter (suc n) (omega arith) other
