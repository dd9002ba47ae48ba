-- What a record or a trap says: the codes of its event. Records stand in IPMI 2.0, section 32, traps and their specific number in PET 1.0.
use Rattle.std.specs.Prelude.{ℕ, ◌/◌, ◌%◌, Bool, ◌&&◌, ◌==◌, nat_lt, if◌then◌else◌, List, take, Option, Some, None, is_some, Result, Ok, Err}
use Rattle.event_record.specs.Fields.{record_type, sensor_type, sensor_number, event_trigger, event_data, event_offset}
use Rattle.event_record.specs.Rules.{record_fault}
use Rattle.snmp_trap.specs.declared.refusal.Refusal.{Refusal}
use Rattle.snmp_trap.specs.Grammar.{Seen}
use Rattle.snmp_trap.specs.Reading.{read}
use Rattle.pet_body.specs.declared.body.Body.{Body}
use Rattle.pet_body.specs.Layout.{body_in}
use Rattle.event_words.specs.declared.event.Event.{Event}
use Rattle.event_words.specs.EventTypes.{direction}
use Rattle.event_words.specs.Sentence.{sentence, oem_record_text}
use Rattle.pef_words.specs.declared.said.Said.{Said}
use Rattle.pef_words.specs.declared.said.Said.TheVariants.{OfEvent, OfOemRecord}

-- the event of a record: octet 13 has the direction and the event type, and a record has no severity
abbrev pub record_event : List ℕ → Event
record_event octets = record {
  sensor_type = sensor_type octets;
  sensor = sensor_number octets;
  event_type = event_trigger octets % 128;
  direction = direction (event_trigger octets);
  offset = event_offset octets;
  event_data = event_data octets;
  severity = None;
}

-- sixteen octets say something where they are a record
abbrev pub said_of_record : List ℕ → Option Said
said_of_record octets =
    if is_some (record_fault octets) then None
    else if record_type octets == 0x02 then Some (OfEvent (record_event octets))
    else Some (OfOemRecord (record_type octets))

-- A specific number of the form of PET 1.0: sensor type in bits 23:16, event type in 15:8, the direction in bit 7, the offset in 3:0. The
-- other bits are 0.
abbrev pub is_event_number : ℕ → Bool
is_event_number specific = nat_lt specific 0x100_0000 && specific / 16 % 8 == 0

-- the event of a trap, by its specific number and fields of its body
abbrev pub trap_event : ℕ → ℕ → ℕ → List ℕ → Event
trap_event specific severity sensor octets = record {
  sensor_type = specific / 0x1_0000;
  sensor = sensor;
  event_type = specific / 0x100 % 0x100;
  direction = direction (specific % 0x100);
  offset = specific % 0x10;
  event_data = octets;
  severity = Some severity;
}

abbrev pub said_of_number : ℕ → ℕ → ℕ → List ℕ → Option Said
said_of_number specific severity sensor octets =
    if is_event_number specific then Some (OfEvent (trap_event specific severity sensor octets)) else None

abbrev pub said_of_body : ℕ → Body → Option Said
said_of_body specific body = said_of_number specific body.severity body.sensor (take 3 body.event_data)

abbrev pub said_by : Result Seen Refusal → Option Said
said_by (Ok seen) = said_of_body seen.specific (body_in seen.body)
said_by (Err refused) = None

-- octets say something where they are a trap with such a number
abbrev pub said_of_trap : List ℕ → Option Said
said_of_trap octets = said_by (read octets)

-- its words
abbrev pub words_for : Said → List ℕ
words_for (OfEvent event) = sentence event
words_for (OfOemRecord kind) = oem_record_text kind
