-- The fields of an event filter: IPMI 2.0, section 17.7, whose table of an entry counts octets from 1.
use Rattle.std.specs.Prelude.{◌≡◌, ℕ, ◌+◌, ◌*◌, ◌%◌, List, [], ◌∷◌}
use Rattle.std.specs.Int.{bit_at}
use Rattle.event_record.specs.Fields.{octet}
use Rattle.filter_table.specs.declared.data_test.DataTest.{DataTest}

-- bit 7 of octet 1
abbrev pub IsEnabled : List ℕ → Type 0
IsEnabled filter = bit_at (octet 1 filter) 7 ≡ 1

-- a bit for each action
abbrev pub actions : List ℕ → ℕ
actions filter = octet 2 filter

-- bits 3:0 of octet 3
abbrev pub policy_number : List ℕ → ℕ
policy_number filter = octet 3 filter % 16

abbrev pub severity : List ℕ → ℕ
severity filter = octet 4 filter

-- octets 5 and 6, in their order
abbrev pub wanted_generator : List ℕ → List ℕ
wanted_generator filter = octet 5 filter ∷ octet 6 filter ∷ []

abbrev pub wanted_sensor_type : List ℕ → ℕ
wanted_sensor_type filter = octet 7 filter

abbrev pub wanted_sensor : List ℕ → ℕ
wanted_sensor filter = octet 8 filter

abbrev pub wanted_trigger : List ℕ → ℕ
wanted_trigger filter = octet 9 filter

-- octets 10 and 11, the least significant first: a bit for each event offset
abbrev pub offset_mask : List ℕ → ℕ
offset_mask filter = octet 10 filter + 0x100 * octet 11 filter

-- the AND mask, compare 1 and compare 2 in three octets from octet n on
abbrev pub data_test_at : ℕ → List ℕ → DataTest
data_test_at n filter = record { mask = octet n filter; compare_1 = octet (n + 1) filter; compare_2 = octet (n + 2) filter }

-- the tests of event data 1 to 3
abbrev pub data_tests : List ℕ → List DataTest
data_tests filter = data_test_at 12 filter ∷ data_test_at 15 filter ∷ data_test_at 18 filter ∷ []
