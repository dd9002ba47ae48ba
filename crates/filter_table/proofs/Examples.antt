-- Worked examples of the definitions: what fits the test of an event data octet, and which event a filter matches.
use Rattle.std.proofs.Common.{◌≡◌, ℕ, true, false, zero, suc, ◌<◌, ◌≤◌, List, [], ◌∷◌, refl, sym, ◌∙◌, ap, replicate, Some, None, inl, inr, arith, lit<}
use Rattle.std.specs.Int.{bit_at}
use Rattle.std.specs.Int.Bits.{and_zero_r}
use Rattle.std.proofs.lemmas.Nat.Bits.{bit_at-zero}
use Rattle.event_record.specs.Fields.{octet, record_type}
use Rattle.filter_table.specs.declared.data_test.DataTest.{DataTest}
use Rattle.filter_table.specs.Matching.{Fits, HasOffset, Matches}
use Rattle.filter_table.specs.BitTest.{fits, is_match}
use Rattle.filter_table.specs.Filters.{numbered, no_filters, number_fault}

abbrev test_of : ℕ → ℕ → ℕ → DataTest
test_of mask compare_1 compare_2 = record { mask = mask; compare_1 = compare_1; compare_2 = compare_2 }

-- what holds at each of eight bits
at_each_bit : (P : ℕ → Type 0) → P 0 → P 1 → P 2 → P 3 → P 4 → P 5 → P 6 → P 7 → (n : ℕ) → n < 8 → P n
at_each_bit P p0 p1 p2 p3 p4 p5 p6 p7 zero l = p0
at_each_bit P p0 p1 p2 p3 p4 p5 p6 p7 (suc zero) l = p1
at_each_bit P p0 p1 p2 p3 p4 p5 p6 p7 (suc (suc zero)) l = p2
at_each_bit P p0 p1 p2 p3 p4 p5 p6 p7 (suc (suc (suc zero))) l = p3
at_each_bit P p0 p1 p2 p3 p4 p5 p6 p7 (suc (suc (suc (suc zero)))) l = p4
at_each_bit P p0 p1 p2 p3 p4 p5 p6 p7 (suc (suc (suc (suc (suc zero))))) l = p5
at_each_bit P p0 p1 p2 p3 p4 p5 p6 p7 (suc (suc (suc (suc (suc (suc zero)))))) l = p6
at_each_bit P p0 p1 p2 p3 p4 p5 p6 p7 (suc (suc (suc (suc (suc (suc (suc zero))))))) l = p7
at_each_bit P p0 p1 p2 p3 p4 p5 p6 p7 (suc (suc (suc (suc (suc (suc (suc (suc n)))))))) l = absurd (omega arith)

-- 00 00 00 takes every value
pub zeros_take_all : (value : ℕ) → Fits (test_of 0x00 0x00 0x00) value
zeros_take_all value = record {
  exact = λ n l one. absurd (let e = sym (bit_at-zero n) ∙ one in omega arith);
  other = inr (0, lit< tt, refl, ap (λ x. bit_at x 0) (and_zero_r value));
}

-- FF FF 52 takes 52h alone
pub exact_takes_its_value : Fits (test_of 0xFF 0xFF 0x52) 0x52
exact_takes_its_value = record { exact = λ n l one. refl; other = inl refl }

pub exact_refuses_another : ¬ Fits (test_of 0xFF 0xFF 0x52) 0x53
exact_refuses_another fits = omega (arith, fits.exact 0 (lit< tt) refl)

-- 00 FF FF takes nothing
pub masked_out_takes_none : (value : ℕ) → ¬ Fits (test_of 0x00 0xFF 0xFF) value
masked_out_takes_none value fits =
    let wrong = sym (ap (λ x. bit_at x 0) (and_zero_r value)) ∙ fits.exact 0 (lit< tt) refl in omega arith

-- 30 CF 10 takes what has bit 4 set or bit 5 clear
pub one_right_bit_is_enough : Fits (test_of 0x30 0xCF 0x10) 0x00
one_right_bit_is_enough = record {
  exact = at_each_bit (λ n. bit_at 0xCF n ≡ 1 → bit_at 0x00 n ≡ bit_at 0x10 n)
      (λ _. refl) (λ _. refl) (λ _. refl) (λ _. refl) (λ e. absurd (omega arith)) (λ _. refl) (λ _. refl) (λ _. refl);
  other = inr (5, lit< tt, refl, refl);
}

pub the_other_right_bit_is_enough : Fits (test_of 0x30 0xCF 0x10) 0x30
the_other_right_bit_is_enough = record {
  exact = at_each_bit (λ n. bit_at 0xCF n ≡ 1 → bit_at 0x30 n ≡ bit_at 0x10 n)
      (λ _. refl) (λ _. refl) (λ _. refl) (λ _. refl) (λ e. absurd (omega arith)) (λ e. absurd (omega arith)) (λ _. refl) (λ _. refl);
  other = inr (4, lit< tt, refl, refl);
}

pub no_right_bit_is_refused : ¬ Fits (test_of 0x30 0xCF 0x10) 0x20
no_right_bit_is_refused fits = elim fits.other [ inl e ↦ omega arith | inr right ↦ refused right.0 right.1 right.2 right.3 ]
  where
    refused : (n : ℕ) → n < 8 → bit_at 0xCF n ≡ 0 → bit_at 0x20 n ≡ bit_at 0x10 n → ⊥
    refused = at_each_bit (λ n. bit_at 0xCF n ≡ 0 → bit_at 0x20 n ≡ bit_at 0x10 n → ⊥)
        (λ e _. omega arith) (λ e _. omega arith) (λ e _. omega arith) (λ e _. omega arith)
        (λ _ same. omega arith) (λ _ same. omega arith) (λ e _. omega arith) (λ e _. omega arith)

-- an enabled filter on sensor type 04h, any other source and any event data, with these two octets of the offset mask
abbrev filter_of : ℕ → ℕ → List ℕ
filter_of low high =
    0x80 ∷ 0x20 ∷ 0x00 ∷ 0x10 ∷ 0xFF ∷ 0xFF ∷ 0x04 ∷ 0xFF ∷ 0x01 ∷ low ∷ high
    ∷ 0x00 ∷ 0x00 ∷ 0x00 ∷ 0x00 ∷ 0x00 ∷ 0x00 ∷ 0x00 ∷ 0x00 ∷ 0x00 ∷ []

-- a system event of that sensor type, with this trigger and this event data 1
abbrev event_of : ℕ → ℕ → List ℕ
event_of trigger event_data_1 =
    0x01 ∷ 0x00 ∷ 0x02 ∷ 0x00 ∷ 0xCA ∷ 0x9A ∷ 0x3B ∷ 0x20 ∷ 0x00 ∷ 0x04 ∷ 0x04 ∷ 0x30 ∷ trigger ∷ event_data_1 ∷ 0x10 ∷ 0x20 ∷ []

pub an_event_is_matched : Matches (filter_of 0x04 0x00) (event_of 0x01 0x52)
an_event_is_matched = record {
  enabled = refl;
  system_event = refl;
  source = record { generator_1 = inl refl; generator_2 = inl refl; type_of_sensor = inr refl; number_of_sensor = inl refl; trigger = inr refl };
  offset = refl;
  event_data = record { first = zeros_take_all 0x52; second = zeros_take_all 0x10; third = zeros_take_all 0x20 };
}

-- offset 3 isn't in the mask
pub another_offset_is_refused : ¬ Matches (filter_of 0x04 0x00) (event_of 0x01 0x53)
another_offset_is_refused matched = let bit : 0 ≡ 1 = matched.offset in omega arith

-- the deassertion of the event
pub a_deassertion_is_refused : ¬ Matches (filter_of 0x04 0x00) (event_of 0x81 0x52)
a_deassertion_is_refused matched = elim matched.source.trigger [ inl e ↦ omega arith | inr e ↦ omega arith ]

-- the offset mask 00 80 has offset 15 alone
pub the_second_mask_octet_has_the_higher_offsets : HasOffset (filter_of 0x00 0x80) (event_of 0x01 0x5F)
the_second_mask_octet_has_the_higher_offsets = refl

pub the_offset_before_is_refused : ¬ HasOffset (filter_of 0x00 0x80) (event_of 0x01 0x5E)
the_offset_before_is_refused has = let bit : 0 ≡ 1 = has in omega arith

-- no OEM record is matched, and a filter whose enable bit is 0 matches nothing
pub oem_records_match_none : (filter event : List ℕ) → 0xC0 ≤ record_type event → ¬ Matches filter event
oem_records_match_none filter event oem matched = let kind = matched.system_event in omega arith

pub disabled_matches_none : (filter event : List ℕ) → bit_at (octet 1 filter) 7 ≡ 0 → ¬ Matches filter event
disabled_matches_none filter event off matched = let on = matched.enabled in omega arith

-- the same rows by the test with a Boolean answer
fit : (fits (test_of 0x00 0x00 0x00) 0xFF ≡ true) × (fits (test_of 0xFF 0xFF 0x52) 0x52 ≡ true)
    × (fits (test_of 0x30 0xCF 0x10) 0x00 ≡ true) × (fits (test_of 0x30 0xCF 0x10) 0x30 ≡ true)
unfolding fits
fit = (refl, refl, refl, refl)

misfit : (fits (test_of 0xFF 0xFF 0x52) 0x53 ≡ false) × (fits (test_of 0x00 0xFF 0xFF) 0xFF ≡ false) × (fits (test_of 0x30 0xCF 0x10) 0x20 ≡ false)
unfolding fits
misfit = (refl, refl, refl)

matched : (is_match (filter_of 0x04 0x00) (event_of 0x01 0x52) ≡ true) × (is_match (filter_of 0x04 0x00) (event_of 0x01 0x53) ≡ false)
    × (is_match (filter_of 0x04 0x00) (event_of 0x81 0x52) ≡ false) × (is_match (filter_of 0x00 0x80) (event_of 0x01 0x5F) ≡ true)
unfolding fits is_match
matched = (refl, refl, refl, refl)

-- of sixteen filters numbers 1 and 16 are there, and 0 and 17 aren't
numbers : (number_fault 16 1 ≡ None) × (number_fault 16 16 ≡ None) × (number_fault 16 0 ≡ Some (record { 0 = 0 })) × (number_fault 16 17 ≡ Some (record { 0 = 17 }))
    × (numbered (no_filters 16) 16 ≡ replicate 20 0) × (numbered (no_filters 16) 17 ≡ []) × (numbered (no_filters 16) 0 ≡ [])
numbers = (refl, refl, refl, refl, refl, refl, refl)
