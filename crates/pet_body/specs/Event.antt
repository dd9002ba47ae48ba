-- The body and the specific number of an event: the fields of PET 1.0, filled from those of IPMI 2.0, section 32.1.
--
-- What stands in a field that a record doesn't give is this project's rule, and not that of PET 1.0: UTC offset FFFFh, both source types
-- 20h, entity and instance 00h, event data 4 to 8 00h, language FFh, and without a record timestamp 0, device 20h, sensor 00h, event
-- data 00h and specific number 0. So is that a time before 1998 counts as not known.
use Rattle.std.specs.Prelude.{ℕ, ◌+◌, ◌-◌, ◌*◌, ◌/◌, ◌%◌, ◌==◌, List, [], ◌∷◌, ◌++◌, take, Option, Some, None, if◌then◌else◌}
use Rattle.event_record.specs.Fields.{octet, record_stamp, sensor_type, sensor_number, event_trigger, event_data, event_offset}
use Rattle.pet_body.specs.declared.body.Body.{Body}
use Rattle.pet_body.specs.declared.event.Identity.{Identity}
use Rattle.pet_body.specs.declared.ack.PetAck.{PetAck}
use Rattle.pet_body.specs.Tail.{tail_for}

-- seconds since 1998-01-01, which is 883612800 seconds after 1970-01-01. 0 says that the time isn't
-- known: the record has none, has FFFFFFFFh, or is from before.
abbrev pub local_time : Option ℕ → ℕ
local_time None = 0
local_time (Some stamp) = if stamp == 0xFFFF_FFFF then 0 else stamp - 883612800

-- what a body takes from a record, and what stands there without one
abbrev pub time_of : Option (List ℕ) → ℕ
time_of None = 0
time_of (Some event) = local_time (record_stamp event)

abbrev pub device_of : Option (List ℕ) → ℕ
device_of None = 0x20
device_of (Some event) = octet 8 event

abbrev pub sensor_of : Option (List ℕ) → ℕ
sensor_of None = 0
sensor_of (Some event) = sensor_number event

abbrev pub data_of : Option (List ℕ) → List ℕ
data_of None = 0 ∷ 0 ∷ 0 ∷ []
data_of (Some event) = event_data event

abbrev pub body_for : Option (List ℕ) → Identity → ℕ → ℕ → List ℕ → Body
body_for event identity sequence severity text = record {
  guid = identity.guid;
  sequence = sequence;
  timestamp = time_of event;
  utc = 0xFFFF;
  trap_source = 0x20;
  event_source = 0x20;
  severity = severity;
  device = device_of event;
  sensor = sensor_of event;
  entity = 0x00;
  instance = 0x00;
  event_data = data_of event ++ 0 ∷ 0 ∷ 0 ∷ 0 ∷ 0 ∷ [];
  language = 0xFF;
  manufacturer = identity.manufacturer;
  system = identity.system;
  tail = tail_for text;
}

-- sensor type, event type and offset in an octet each; a deassertion sets bit 7 of the last
abbrev pub specific_for : Option (List ℕ) → ℕ
specific_for None = 0
specific_for (Some event) =
    sensor_type event * 65536 + event_trigger event % 128 * 256 + event_trigger event / 128 * 128 + event_offset event

-- what a console sends back to acknowledge a trap: IPMI 2.0, section 30.8
abbrev pub ack_for : Body → PetAck
ack_for body = record {
  sequence = body.sequence;
  timestamp = body.timestamp;
  event_source = body.event_source;
  device = body.device;
  sensor = body.sensor;
  event_data = take 3 body.event_data;
}
