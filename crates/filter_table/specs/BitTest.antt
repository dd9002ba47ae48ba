-- The test by single bits whether an event filter matches an event record, with a Boolean answer, so that a list of records or of filters
-- can be selected by it. It is the definition that lists are selected by, and `Matches` says the same as conditions: `matching_law` ties
-- them. IPMI 2.0, section 17.7; which readings are this project's is said beside `Matches`.
use Rattle.std.specs.Prelude.{ℕ, zero, suc, Bool, true, false, ◌&&◌, ◌||◌, ◌==◌, List, bit_and}
use Rattle.std.specs.Int.{bit_at}
use Rattle.event_record.specs.Fields.{octet, record_type, sensor_type, sensor_number, event_trigger, event_offset}
use Rattle.filter_table.specs.declared.data_test.DataTest.{DataTest}
use Rattle.filter_table.specs.Entry.{offset_mask, data_test_at}

-- a test holds at each number below this one
abbrev pub all_below : (ℕ → Bool) → ℕ → Bool
all_below test zero = true
all_below test (suc n) = test n && all_below test n

-- a test holds at some number below this one
abbrev pub any_below : (ℕ → Bool) → ℕ → Bool
any_below test zero = false
any_below test (suc n) = test n || any_below test n

-- an octet of a filter that is FFh takes every value, another its own alone
abbrev pub takes : ℕ → ℕ → Bool
takes wanted value = (wanted == 0xFF) || (wanted == value)

-- bit n of the value, under the mask, is bit n of compare 2
abbrev pub is_same_at : DataTest → ℕ → ℕ → Bool
is_same_at test value n = bit_at (bit_and value test.mask) n == bit_at test.compare_2 n

-- The bits that are 1 in compare 1 are exact, and each of them is the same as in compare 2; and where compare 1 isn't
-- FFh, one of the other bits is the same.
unfoldable pub fits : DataTest → ℕ → Bool
fits test value =
    all_below (λ n. (bit_at test.compare_1 n == 0) || is_same_at test value n) 8
    && ((test.compare_1 == 0xFF) || any_below (λ n. (bit_at test.compare_1 n == 0) && is_same_at test value n) 8)

-- The filter is enabled and matches the event.
unfoldable pub is_match : List ℕ → List ℕ → Bool
is_match filter event =
    (bit_at (octet 1 filter) 7 == 1)
    && (record_type event == 0x02)
    && takes (octet 5 filter) (octet 8 event)
    && takes (octet 6 filter) (octet 9 event)
    && takes (octet 7 filter) (sensor_type event)
    && takes (octet 8 filter) (sensor_number event)
    && takes (octet 9 filter) (event_trigger event)
    && (bit_at (offset_mask filter) (event_offset event) == 1)
    && fits (data_test_at 12 filter) (octet 14 event)
    && fits (data_test_at 15 filter) (octet 15 event)
    && fits (data_test_at 18 filter) (octet 16 event)
