-- The test of a match by single bits says what the conditions say.
use Rattle.std.proofs.Common.{◌≡◌, ◌⊎◌, ℕ, ◌<◌, List, ◌&&◌, ◌||◌, eqb, refl, inl, inr, arith, Decides}
use Rattle.std.specs.Int.{bit_at}
use Rattle.std.proofs.lemmas.Nat.Bits.{bit_at-lt}
use Rattle.std.proofs.lemmas.Bool.{cases_eq}
use Rattle.std.proofs.lemmas.Bool.Decides.{Decides-eqb, Decides-and, Decides-or, Decides-like, Decides-below_and, Decides-below_or}
use Rattle.event_record.specs.Fields.{octet, record_type, sensor_type, sensor_number, event_trigger, event_offset}
use Rattle.filter_table.specs.declared.data_test.DataTest.{DataTest}
use Rattle.filter_table.specs.Entry.{offset_mask, data_test_at}
use Rattle.filter_table.specs.Matching.{Takes, IsSameAt, Fits, Matches}
use Rattle.filter_table.specs.BitTest.{all_below, any_below, takes, is_same_at, fits, is_match}

takes_decides : (wanted value : ℕ) → Decides (takes wanted value) (Takes wanted value)
takes_decides wanted value = Decides-or (eqb wanted 255) (eqb wanted value) (Decides-eqb wanted 255) (Decides-eqb wanted value)

module _ (test : DataTest) (value : ℕ) where
  same_decides : (n : ℕ) → Decides (is_same_at test value n) (IsSameAt test value n)
  same_decides n = Decides-eqb _ _

  open_decides : (n : ℕ) → Decides (eqb (bit_at test.compare_1 n) 0) (bit_at test.compare_1 n ≡ 0)
  open_decides n = Decides-eqb _ _

  abbrev Exact : ℕ → Type 0
  Exact n = (bit_at test.compare_1 n ≡ 0) ⊎ IsSameAt test value n

  abbrev Other : ℕ → Type 0
  Other n = (bit_at test.compare_1 n ≡ 0) × IsSameAt test value n

  exact_by : (n : ℕ) → Exact n → bit_at test.compare_1 n ≡ 1 → IsSameAt test value n
  exact_by n (inl zero) one = absurd (omega arith)
  exact_by n (inr same) one = same

  by_exact : (n : ℕ) → (bit_at test.compare_1 n ≡ 1 → IsSameAt test value n) → Exact n
  by_exact n exact = elim (Decides-cases n) [ inl zero ↦ inl zero | inr one ↦ inr (exact one) ]
    where
      Decides-cases : (n : ℕ) → (bit_at test.compare_1 n ≡ 0) ⊎ (bit_at test.compare_1 n ≡ 1)
      Decides-cases n = elim (cases_eq (bit_at test.compare_1 n) 0) [ inl zero ↦ inl zero | inr other ↦ inr (omega (arith, bit_at-lt test.compare_1 n)) ]

  pub fits_decides : Decides (fits test value) (Fits test value)
  unfolding fits
  fits_decides =
      let p_exact = λ (n : ℕ). eqb (bit_at test.compare_1 n) 0 || is_same_at test value n in
      let p_other = λ (n : ℕ). eqb (bit_at test.compare_1 n) 0 && is_same_at test value n in
      let exact = Decides-below_and p_exact Exact (all_below p_exact) (λ n. Decides-or _ _ (open_decides n) (same_decides n)) refl (λ _. refl) 8 in
      let other = Decides-below_or p_other Other (any_below p_other) (λ n. Decides-and _ _ (open_decides n) (same_decides n)) refl (λ _. refl) 8 in
      let whole = Decides-eqb test.compare_1 255 in
      Decides-like _ to_fits from_fits (Decides-and _ _ exact (Decides-or _ _ whole other))
    where
      to_fits : ((n : ℕ) → n < 8 → Exact n) × ((test.compare_1 ≡ 255) ⊎ ((n : ℕ) × (n < 8) × Other n)) → Fits test value
      to_fits parts = record {
        exact = λ n below one. exact_by n (parts.0 n below) one;
        other = elim parts.1 [ inl whole ↦ inl whole | inr right ↦ inr (right.0, right.1, right.2.0, right.2.1) ];
      }

      from_fits : Fits test value → ((n : ℕ) → n < 8 → Exact n) × ((test.compare_1 ≡ 255) ⊎ ((n : ℕ) × (n < 8) × Other n))
      from_fits fits = (
        λ n below. by_exact n (fits.exact n below),
        elim fits.other [ inl whole ↦ inl whole | inr right ↦ inr (right.0, right.1, (right.2, right.3)) ],
      )

pub match_decides : (filter event : List ℕ) → Decides (is_match filter event) (Matches filter event)
unfolding is_match
match_decides filter event =
    let enabled = Decides-eqb (bit_at (octet 1 filter) 7) 1 in
    let kind = Decides-eqb (record_type event) 2 in
    let generator_1 = takes_decides (octet 5 filter) (octet 8 event) in
    let generator_2 = takes_decides (octet 6 filter) (octet 9 event) in
    let sensor = takes_decides (octet 7 filter) (sensor_type event) in
    let number = takes_decides (octet 8 filter) (sensor_number event) in
    let trigger = takes_decides (octet 9 filter) (event_trigger event) in
    let offset = Decides-eqb (bit_at (offset_mask filter) (event_offset event)) 1 in
    let first = fits_decides (data_test_at 12 filter) (octet 14 event) in
    let second = fits_decides (data_test_at 15 filter) (octet 15 event) in
    let third = fits_decides (data_test_at 18 filter) (octet 16 event) in
    Decides-like _
    (λ p. record {
      enabled = p.0.0.0.0.0.0.0.0.0.0;
      system_event = p.0.0.0.0.0.0.0.0.0.1;
      source = record {
        generator_1 = p.0.0.0.0.0.0.0.0.1;
        generator_2 = p.0.0.0.0.0.0.0.1;
        type_of_sensor = p.0.0.0.0.0.0.1;
        number_of_sensor = p.0.0.0.0.0.1;
        trigger = p.0.0.0.0.1;
      };
      offset = p.0.0.0.1;
      event_data = record { first = p.0.0.1; second = p.0.1; third = p.1 };
    })
    (λ m. ((((((((((m.enabled, m.system_event), m.source.generator_1), m.source.generator_2), m.source.type_of_sensor), m.source.number_of_sensor), m.source.trigger), m.offset), m.event_data.first), m.event_data.second), m.event_data.third))
    (Decides-and _ _ (Decides-and _ _ (Decides-and _ _ (Decides-and _ _ (Decides-and _ _ (Decides-and _ _ (Decides-and _ _ (Decides-and _ _ (Decides-and _ _ (Decides-and _ _ enabled kind) generator_1) generator_2) sensor) number) trigger) offset) first) second) third)
