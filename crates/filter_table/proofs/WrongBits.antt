-- The test of an octet of event data by its bits is the test by whole octets.
use Rattle.std.proofs.Common.{◌≡◌, ◌≢◌, ℕ, ◌-◌, ◌^◌, ◌<◌, inl, inr, arith, bit_and}
use Rattle.std.specs.Int.{bit_at}
use Rattle.std.specs.Int.Bits.{bit_xor}
use Rattle.std.proofs.lemmas.Nat.{and_le_l, xor_of_8}
use Rattle.filter_table.specs.declared.data_test.DataTest.{DataTest}
use Rattle.filter_table.specs.Matching.{Fits, IsSameAt}
use Rattle.filter_table.proofs.Bits.{xor-zero-same, same-xor-zero, zero_at_mask, none_at_mask, both_zero, some_common}

-- the bits at which the value under the mask isn't compare 2
abbrev pub wrong_bits : DataTest → ℕ → ℕ
wrong_bits test value = bit_xor (bit_and value test.mask) test.compare_2

module _ (test : DataTest) (value : ℕ) where
  exact_bits_are_right : bit_and (wrong_bits test value) test.compare_1 ≡ 0
      → (n : ℕ) → n < 8 → bit_at test.compare_1 n ≡ 1 → IsSameAt test value n
  exact_bits_are_right none n below exact =
      xor-zero-same (bit_and value test.mask) test.compare_2 n (zero_at_mask (wrong_bits test value) test.compare_1 n none exact)

  module _ (octet : value < 2 ^ 8) (compare_octet : test.compare_2 < 2 ^ 8) where
    wrong_octet : wrong_bits test value < 2 ^ 8
    wrong_octet = xor_of_8 (bit_and value test.mask) test.compare_2 (omega (arith, and_le_l value test.mask)) compare_octet

    pub no_exact_bit_is_wrong : Fits test value → bit_and (wrong_bits test value) test.compare_1 ≡ 0
    no_exact_bit_is_wrong fits =
        none_at_mask (wrong_bits test value) test.compare_1 wrong_octet
        (λ n below exact. same-xor-zero (bit_and value test.mask) test.compare_2 n (fits.exact n below exact))

    module _ (exact_octet : test.compare_1 < 2 ^ 8) where
      pub fits_by_another : bit_and (wrong_bits test value) test.compare_1 ≡ 0
          → bit_and (255 - wrong_bits test value) (255 - test.compare_1) ≢ 0 → Fits test value
      fits_by_another none some =
          let right = both_zero (wrong_bits test value) test.compare_1 wrong_octet exact_octet some in
          record {
            exact = exact_bits_are_right none;
            other = inr (right.0, right.1, right.2, xor-zero-same (bit_and value test.mask) test.compare_2 right.0 right.3);
          }

      pub another_is_right : Fits test value → test.compare_1 ≢ 255 → bit_and (255 - wrong_bits test value) (255 - test.compare_1) ≢ 0
      another_is_right fits not_all = elim fits.other [
        | inl all ↦ absurd (not_all all)
        | inr right ↦ some_common (wrong_bits test value) test.compare_1 wrong_octet exact_octet right.0 right.1 right.2
            (same-xor-zero (bit_and value test.mask) test.compare_2 right.0 right.3)
      ]
