-- The definitions on a fan's event: ID 1, a system event, at 1000000000 seconds since 1970-01-01.
use Rattle.std.proofs.Common.{◌≡◌, ℕ, List, [], ◌∷◌, Some, None, refl}
use Rattle.event_record.specs.Fields.{record_id, record_type, record_stamp, generator, sensor_type, sensor_number, event_trigger, event_data, event_offset}
use Rattle.event_record.specs.Rules.{record_fault}
use Rattle.event_record.specs.Log.{place_in, add_fault}
use Rattle.event_record.specs.declared.fault.RecordFault.TheVariants.{ReservedId, Kind}
use Rattle.event_record.specs.declared.fault.LogFault.TheVariants.{Duplicate}

-- a fan's event with these octets 1 to 3
abbrev with_front : ℕ → ℕ → ℕ → List ℕ
with_front low high kind =
    low ∷ high ∷ kind ∷ 0x00 ∷ 0xCA ∷ 0x9A ∷ 0x3B ∷ 0x20 ∷ 0x00 ∷ 0x04 ∷ 0x04 ∷ 0x30 ∷ 0x01 ∷ 0x52 ∷ 0x10 ∷ 0x20 ∷ []

abbrev fan : List ℕ
fan = with_front 0x01 0x00 0x02

fan-id : record_id fan ≡ 1
fan-id = refl

fan-type : record_type fan ≡ 0x02
fan-type = refl

fan-stamp : record_stamp fan ≡ Some 1000000000
fan-stamp = refl

fan-generator : generator fan ≡ 0x20 ∷ 0x00 ∷ []
fan-generator = refl

fan-sensor : (sensor_type fan ≡ 0x04) × (sensor_number fan ≡ 0x30)
fan-sensor = (refl, refl)

fan-trigger : event_trigger fan ≡ 0x01
fan-trigger = refl

fan-data : (event_data fan ≡ 0x52 ∷ 0x10 ∷ 0x20 ∷ []) × (event_offset fan ≡ 2)
fan-data = (refl, refl)

high_octet_second : record_id (with_front 0x34 0x12 0x02) ≡ 0x1234
high_octet_second = refl

stamped : (record_stamp (with_front 1 0 0xDF) ≡ Some 1000000000) × (record_stamp (with_front 1 0 0xE0) ≡ None)
stamped = (refl, refl)

lawful : (record_fault fan ≡ None) × (record_fault (with_front 1 0 0xC0) ≡ None) × (record_fault (with_front 0xFE 0xFF 0xFF) ≡ None)
lawful = (refl, refl, refl)

reserved : (record_fault (with_front 0 0 0x01) ≡ Some (ReservedId 0)) × (record_fault (with_front 0xFF 0xFF 0x02) ≡ Some (ReservedId 0xFFFF))
reserved = (refl, refl)

unknown : (record_fault (with_front 5 0 0x01) ≡ Some (Kind 0x01)) × (record_fault (with_front 5 0 0xBF) ≡ Some (Kind 0xBF))
unknown = (refl, refl)

found : (place_in (with_front 7 0 2 ∷ fan ∷ []) 1 ≡ Some 1) × (place_in (with_front 7 0 2 ∷ fan ∷ []) 2 ≡ None)
found = (refl, refl)

refused : (add_fault (with_front 7 0 2 ∷ fan ∷ []) (with_front 7 0 0xC0) ≡ Some (Duplicate 7)) × (add_fault (fan ∷ []) (with_front 7 0 2) ≡ None)
refused = (refl, refl)
