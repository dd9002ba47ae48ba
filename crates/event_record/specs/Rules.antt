-- Which sixteen octets are an event record: IPMI 2.0, section 32.1. That other record types than those are refused is this project's
-- rule.
use Rattle.std.specs.Prelude.{◌≡◌, ◌≢◌, ◌⊎◌, ℕ, ◌<◌, Bool, true, false, ◌==◌, ◌||◌, nat_le, List, length, Option, Some, None, if◌then◌else◌}
use Rattle.event_record.specs.Fields.{record_id, record_type}
use Rattle.event_record.specs.declared.fault.RecordFault.{RecordFault}
use Rattle.event_record.specs.declared.fault.RecordFault.TheVariants.{ReservedId, Kind}

-- 0000h and FFFFh aren't IDs of records
abbrev pub is_reserved : ℕ → Bool
is_reserved id = (id == 0x0000) || (id == 0xFFFF)

-- a system event, or an OEM record with or without a timestamp
abbrev pub is_record_type : ℕ → Bool
is_record_type kind = (kind == 0x02) || nat_le 0xC0 kind

-- why sixteen octets are no record, where they are none
abbrev pub record_fault : List ℕ → Option RecordFault
record_fault octets =
    if is_reserved (record_id octets) then Some (ReservedId (record_id octets))
    else (if is_record_type (record_type octets) then None else Some (Kind (record_type octets)))

-- the same of each refusal in words of its own: the ID is one of the two that stand for the first and the last record of a log
abbrev pub HasReservedId : List ℕ → Type 0
HasReservedId octets = (record_id octets ≡ 0x0000) ⊎ (record_id octets ≡ 0xFFFF)

-- the type is below C0h, where OEM records begin, and isn't that of a system event
abbrev pub HasOtherType : List ℕ → Type 0
HasOtherType octets = (record_type octets < 0xC0) × (record_type octets ≢ 0x02)

pub record IsRecord (octets : List ℕ) : Type 0 where
  pub sixteen : length octets ≡ 16
  pub id : is_reserved (record_id octets) ≡ false
  pub kind : is_record_type (record_type octets) ≡ true
