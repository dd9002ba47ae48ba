-- What whole octets say of their single bits.
use Rattle.std.proofs.Common.{◌≡◌, ◌≢◌, ℕ, ◌-◌, ◌^◌, ◌<◌, ◌∙◌, sym, ap, inl, inr, arith, w8, bit_and}
use Rattle.std.specs.Int.{bit_at, trailing_zeros}
use Rattle.std.specs.Int.Bits.{bit_xor}
use Rattle.std.proofs.lemmas.Bool.{cases_eq}
use Rattle.std.proofs.lemmas.Nat.{and_le_l}
use Rattle.std.proofs.lemmas.Nat.Bits.{bit_at_and, bit_at_xor, bit_at_not, bit_at-lt, bit_at-zero, bit_at-trailing_zeros, same_from_bits_below}

module _ (a b : ℕ) where
  -- two numbers are the same where they don't differ
  pub xor-zero-same : (n : ℕ) → bit_at (bit_xor a b) n ≡ 0 → bit_at a n ≡ bit_at b n
  xor-zero-same n e = omega (arith, bit_at_xor a b n, bit_at-lt a n, bit_at-lt b n)

  pub same-xor-zero : (n : ℕ) → bit_at a n ≡ bit_at b n → bit_at (bit_xor a b) n ≡ 0
  same-xor-zero n e = omega (arith, bit_at_xor a b n)

  -- an octet that has no bit in common with a mask is zero at each bit of the mask
  pub zero_at_mask : (n : ℕ) → bit_and a b ≡ 0 → bit_at b n ≡ 1 → bit_at a n ≡ 0
  zero_at_mask n none one =
      let zero_there : bit_at (bit_and a b) n ≡ 0 = ap (λ x. bit_at x n) none ∙ bit_at-zero n in
      omega (arith, bit_at_and a b n, bit_at-lt a n)

  pub none_at_mask : a < 2 ^ 8 → ((n : ℕ) → n < 8 → bit_at b n ≡ 1 → bit_at a n ≡ 0) → bit_and a b ≡ 0
  none_at_mask octet zeros =
      same_from_bits_below 8 (bit_and a b) 0 (omega (arith, and_le_l a b)) (omega arith) (λ n below. zero_there n below ∙ sym (bit_at-zero n))
    where
      zero_there : (n : ℕ) → n < 8 → bit_at (bit_and a b) n ≡ 0
      zero_there n below = elim (cases_eq (bit_at b n) 1) [ inl one ↦ omega (arith, bit_at_and a b n, zeros n below one) | inr other ↦ omega (arith, bit_at_and a b n, bit_at-lt b n) ]

  -- the complements of two octets have a bit in common where both octets are zero
  module _ (a_octet : a < 2 ^ 8) (b_octet : b < 2 ^ 8) where
    pub both_zero : bit_and (255 - a) (255 - b) ≢ 0 → (n : ℕ) × (n < 8) × (bit_at b n ≡ 0) × (bit_at a n ≡ 0)
    both_zero some =
        let common = bit_and (255 - a) (255 - b) in
        let lowest = bit_at-trailing_zeros w8 common (omega arith) (omega (arith, and_le_l (255 - a) (255 - b))) in
        let n = trailing_zeros w8 common in
        let within : n < 8 = lowest.0 in
        let ones = bit_at_and (255 - a) (255 - b) n in
        (n, within, omega (arith, ones, lowest.1, bit_at_not w8 b n b_octet within), omega (arith, ones, lowest.1, bit_at_not w8 a n a_octet within))

    pub some_common : (n : ℕ) → n < 8 → bit_at b n ≡ 0 → bit_at a n ≡ 0 → bit_and (255 - a) (255 - b) ≢ 0
    some_common n within b_zero a_zero none =
        let zero_there : bit_at (bit_and (255 - a) (255 - b)) n ≡ 0 = ap (λ x. bit_at x n) none ∙ bit_at-zero n in
        absurd (omega (arith, bit_at_and (255 - a) (255 - b) n, bit_at_not w8 a n a_octet within, bit_at_not w8 b n b_octet within))
