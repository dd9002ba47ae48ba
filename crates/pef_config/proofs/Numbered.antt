-- A filter by its number is the element one place before it.
use Rattle.std.proofs.Common.{◌≡◌, ℕ, ◌-◌, ◌≤◌, ap, cond, false, List, [], get_or, arith, eqb}
use Rattle.std.proofs.lemmas.Bool.Decides.{nat_tests}
use Rattle.filter_table.specs.Filters.{numbered}

pub numbered-one_on : (xs : List (List ℕ)) (n : ℕ) → 1 ≤ n → numbered xs n ≡ get_or xs (n - 1) []
numbered-one_on xs n one = ap (λ b. cond b [] (get_or xs (n - 1) [])) (not_zero n one)
  where
    not_zero : (n : ℕ) → 1 ≤ n → eqb n 0 ≡ false
    not_zero n one = grind (arith, nat_tests)
