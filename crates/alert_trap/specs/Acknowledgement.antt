-- The acknowledgement that is awaited for a trap: the request data of PET Acknowledge, IPMI 2.0, section 30.8, whose fields are those of
-- the trap. What stands in the trap of an alert without a record is this project's rule, and stands in pet_body.
use Rattle.std.specs.Prelude.{ℕ, List, Option}
use Rattle.pet_body.specs.declared.ack.PetAck.{PetAck}
use Rattle.pet_body.specs.Event.{time_of, device_of, sensor_of, data_of}

-- the trap's sequence number; its event, or none
abbrev pub ack_awaited : ℕ → Option (List ℕ) → PetAck
ack_awaited sequence event = record {
  sequence = sequence;
  timestamp = time_of event;
  event_source = 0x20;
  device = device_of event;
  sensor = sensor_of event;
  event_data = data_of event;
}
