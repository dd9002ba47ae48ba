-- When an event filter matches an event record: IPMI 2.0, section 17.7. This project's readings are how compare 1 and compare 2 of an
-- event data octet join where some bits are exact and others not (`Fits`), that the event trigger is compared with the whole octet 13
-- of the record, and that OEM records match no filter.
use Rattle.std.specs.Prelude.{◌≡◌, ℕ, ◌<◌, ◌⊎◌, List, bit_and}
use Rattle.std.specs.Int.{bit_at}
use Rattle.event_record.specs.Fields.{octet, record_type, sensor_type, sensor_number, event_trigger, event_offset}
use Rattle.filter_table.specs.declared.data_test.DataTest.{DataTest}
use Rattle.filter_table.specs.Entry.{IsEnabled, offset_mask, data_test_at}

-- An octet that is FFh takes every value, and any other takes its own alone.
abbrev pub Takes : ℕ → ℕ → Type 0
Takes wanted value = (wanted ≡ 0xFF) ⊎ (wanted ≡ value)

-- Bit n of the value, under the mask, is bit n of compare 2.
abbrev pub IsSameAt : DataTest → ℕ → ℕ → Type 0
IsSameAt test value n = bit_at (bit_and value test.mask) n ≡ bit_at test.compare_2 n

-- An octet of event data fits its test: each bit that is 1 in compare 1 is exact, and has to be the same as in
-- compare 2; and where compare 1 isn't FFh, one bit at least of those that aren't exact is the same.
pub record Fits (test : DataTest) (value : ℕ) : Type 0 where
  pub exact : (n : ℕ) → n < 8 → bit_at test.compare_1 n ≡ 1 → IsSameAt test value n
  pub other : (test.compare_1 ≡ 0xFF) ⊎ ((n : ℕ) × (n < 8) × (bit_at test.compare_1 n ≡ 0) × IsSameAt test value n)

-- The generator, the sensor and the event trigger are those that octets 5 to 9 ask for.
pub record TakesSource (filter event : List ℕ) : Type 0 where
  pub generator_1 : Takes (octet 5 filter) (octet 8 event)
  pub generator_2 : Takes (octet 6 filter) (octet 9 event)
  pub type_of_sensor : Takes (octet 7 filter) (sensor_type event)
  pub number_of_sensor : Takes (octet 8 filter) (sensor_number event)
  pub trigger : Takes (octet 9 filter) (event_trigger event)

-- The offset mask has the bit of the event's offset.
abbrev pub HasOffset : List ℕ → List ℕ → Type 0
HasOffset filter event = bit_at (offset_mask filter) (event_offset event) ≡ 1

-- Each octet of event data fits its test.
pub record FitsData (filter event : List ℕ) : Type 0 where
  pub first : Fits (data_test_at 12 filter) (octet 14 event)
  pub second : Fits (data_test_at 15 filter) (octet 15 event)
  pub third : Fits (data_test_at 18 filter) (octet 16 event)

-- An enabled filter matches a system event that it takes by source, offset and event data. An OEM record is
-- no system event.
pub record Matches (filter event : List ℕ) : Type 0 where
  pub enabled : IsEnabled filter
  pub system_event : record_type event ≡ 0x02
  pub source : TakesSource filter event
  pub offset : HasOffset filter event
  pub event_data : FitsData filter event
