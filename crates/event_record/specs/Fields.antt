-- The fields of an event record: IPMI 2.0, section 32.1, whose table counts octets from 1.
use Rattle.std.specs.Prelude.{ℕ, ◌+◌, ◌-◌, ◌*◌, ◌%◌, List, [], ◌∷◌, slice_index, Option, Some, None, nat_lt, if◌then◌else◌}

-- octet n of a record, counted from 1
abbrev pub octet : ℕ → List ℕ → ℕ
octet n event = slice_index event (n - 1)

-- octets 1 and 2, the least significant first
abbrev pub record_id : List ℕ → ℕ
record_id event = octet 1 event + 0x100 * octet 2 event

abbrev pub record_type : List ℕ → ℕ
record_type event = octet 3 event

-- octets 4 to 7, the least significant first; a record of type E0h to FFh has no timestamp
abbrev pub record_stamp : List ℕ → Option ℕ
record_stamp event =
    if nat_lt (record_type event) 0xE0
    then Some (octet 4 event + 0x100 * octet 5 event + 0x1_0000 * octet 6 event + 0x100_0000 * octet 7 event)
    else None

-- octets 8 and 9, in their order
abbrev pub generator : List ℕ → List ℕ
generator event = octet 8 event ∷ octet 9 event ∷ []

abbrev pub sensor_type : List ℕ → ℕ
sensor_type event = octet 11 event

abbrev pub sensor_number : List ℕ → ℕ
sensor_number event = octet 12 event

-- octet 13 as a whole: bit 7 is 1 for a deassertion, bits 6:0 are the event type
abbrev pub event_trigger : List ℕ → ℕ
event_trigger event = octet 13 event

-- octets 14 to 16
abbrev pub event_data : List ℕ → List ℕ
event_data event = octet 14 event ∷ octet 15 event ∷ octet 16 event ∷ []

-- bits 3:0 of event data 1
abbrev pub event_offset : List ℕ → ℕ
event_offset event = octet 14 event % 16
