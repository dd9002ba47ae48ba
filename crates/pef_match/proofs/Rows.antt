-- Numbers in a row, and lists that are told by them.
use Rattle.std.proofs.Common.{◌≡◌, ℕ, zero, suc, ◌+◌, ◌<◌, List, [], ◌∷◌, ◌++◌, map, ◌∙◌, ap, refl, add-one, length, get_or, arith}
use Rattle.pef_match.specs.Numbers.{numbers_from}

one_longer : (first count : ℕ) → numbers_from first (suc count) ≡ numbers_from first count ++ (first + count) ∷ []
one_longer first zero = ap (λ n. n ∷ []) (no_more first)
  where
    no_more : (n : ℕ) → n ≡ n + 0
    no_more n = omega arith
one_longer first (suc count) =
    ap (λ l. first ∷ l) (one_longer (first + 1) count ∙ ap (λ n. numbers_from (first + 1) count ++ n ∷ []) (next first count))
  where
    next : (n k : ℕ) → n + 1 + k ≡ n + suc k
    next n k = omega arith

pub numbers_more : (first count : ℕ) → numbers_from first (count + 1) ≡ numbers_from first count ++ (first + count) ∷ []
numbers_more first count = ap (numbers_from first) (add-one count) ∙ one_longer first count

-- the row of some and more numbers is that of the one and that of the others
pub numbers_parted : (first some more : ℕ) → numbers_from first (some + more) ≡ numbers_from first some ++ numbers_from (first + some) more
numbers_parted first zero more = ap (numbers_from first) (none_and more) ∙ ap (λ n. numbers_from n more) (no_more first)
  where
    none_and : (n : ℕ) → 0 + n ≡ n
    none_and n = omega arith

    no_more : (n : ℕ) → n ≡ n + 0
    no_more n = omega arith
numbers_parted first (suc some) more =
    ap (numbers_from first) (suc_plus some more)
    ∙ ap (λ l. first ∷ l) (numbers_parted (first + 1) some more ∙ ap (λ n. numbers_from (first + 1) some ++ numbers_from n more) (next first some))
  where
    suc_plus : (n k : ℕ) → suc n + k ≡ suc (n + k)
    suc_plus n k = omega arith

    next : (n k : ℕ) → n + 1 + k ≡ n + suc k
    next n k = omega arith

pub length-numbers_from : (first count : ℕ) → length (numbers_from first count) ≡ count
length-numbers_from first zero = refl
length-numbers_from first (suc count) = ap suc (length-numbers_from (first + 1) count)

-- a list is what a function of the numbers gives, where each element is
pub listed : {X : Type 0} (count : ℕ) (xs : List X) (d : X) (f : ℕ → X) (first : ℕ) → length xs ≡ count
    → ((i : ℕ) → i < count → get_or xs i d ≡ f (first + i)) → xs ≡ map f (numbers_from first count)
listed zero [] d f first is each = refl
listed zero (x ∷ xs) d f first is each = absurd (omega arith)
listed (suc count) [] d f first is each = absurd (omega arith)
listed (suc count) (x ∷ xs) d f first is each =
    ap (λ y. y ∷ xs) (each 0 (omega arith) ∙ ap f (plus_zero first))
    ∙ ap (λ ys. f first ∷ ys) (listed count xs d f (first + 1) (omega arith) (λ i below. each (suc i) (omega arith) ∙ ap f (next first i)))
  where
    plus_zero : (n : ℕ) → n + 0 ≡ n
    plus_zero n = omega arith

    next : (n i : ℕ) → n + suc i ≡ n + 1 + i
    next n i = omega arith
