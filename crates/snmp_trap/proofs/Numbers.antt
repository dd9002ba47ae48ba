-- Numbers in octets.
use Rattle.std.proofs.Common.{◌≡◌, ℕ, zero, suc, ◌+◌, ◌*◌, ◌^◌, ◌<◌, ◌≤◌, List, [], ◌∷◌, ◌++◌, length, take, get_or, ap, ◌∙◌, arith, add-one}
use Rattle.std.proofs.lemmas.List.{length-append, take_more}
use Rattle.std.proofs.Math.Nat.{pow-suc}
use Rattle.snmp_trap.specs.Grammar.{number_of}

pow_more : (n : ℕ) → 256 ^ (n + 1) ≡ 256 ^ n * 256
pow_more n = ap (λ k. 256 ^ k) (add-one n) ∙ pow-suc 256 n

-- an octet more
pub number_of-push : (xs : List ℕ) (x : ℕ) → number_of (xs ++ x ∷ []) ≡ number_of xs * 256 + x
number_of-push [] x = omega arith
number_of-push (y ∷ ys) x =
    let longer : length (ys ++ x ∷ []) ≡ length ys + 1 = length-append ys (x ∷ []) in
    let power : 256 ^ length (ys ++ x ∷ []) ≡ 256 ^ length ys * 256 = ap (λ n. 256 ^ n) longer ∙ pow_more (length ys) in
    let times : y * 256 ^ length (ys ++ x ∷ []) ≡ y * (256 ^ length ys * 256) = ap (λ n. y * n) power in
    omega (arith, times, number_of-push ys x)

-- fewer than five octets stand for less than 2^32
pub small_power : (n : ℕ) → n < 5 → 256 ^ n ≤ 2 ^ 32
small_power zero lt = omega arith
small_power (suc zero) lt = omega arith
small_power (suc (suc zero)) lt = omega arith
small_power (suc (suc (suc zero))) lt = omega arith
small_power (suc (suc (suc (suc zero)))) lt = omega arith
small_power (suc (suc (suc (suc (suc n))))) lt = absurd (omega arith)

-- the first i octets, and one more
pub one_more : (xs : List ℕ) (i n x : ℕ) → i < length xs → n ≡ number_of (take i xs) → x ≡ get_or xs i 0 → n * 256 + x ≡ number_of (take (i + 1) xs)
one_more xs i n x lt e is = omega (arith, ap number_of (take_more xs i 0 lt), number_of-push (take i xs) (get_or xs i 0))

pub one_more_fits : (i n x : ℕ) → n < 256 ^ i → x < 256 → n * 256 + x < 256 ^ (i + 1)
one_more_fits i n x lt octet = omega (arith, pow_more i)
