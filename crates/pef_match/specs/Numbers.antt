-- Numbers in a row, and the least and the greatest of a list.
use Rattle.std.specs.Prelude.{ℕ, zero, suc, ◌+◌, min, max, List, [], ◌∷◌}

-- so many numbers, from n on
abbrev pub numbers_from : ℕ → ℕ → List ℕ
numbers_from n zero = []
numbers_from n (suc count) = n ∷ numbers_from (n + 1) count

-- the greatest of these numbers, 0 where there are none
abbrev pub greatest : List ℕ → ℕ
greatest [] = 0
greatest (n ∷ numbers) = max n (greatest numbers)

-- the least of n and these numbers
abbrev pub least : ℕ → List ℕ → ℕ
least n [] = n
least n (m ∷ numbers) = min n (least m numbers)
