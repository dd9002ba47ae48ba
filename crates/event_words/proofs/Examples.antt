-- The sentences of worked events.
use Rattle.std.proofs.Common.{◌≡◌, ℕ, [], ◌∷◌, Option, Some, None, refl, codes}
use Rattle.event_words.specs.declared.event.Event.{Event}
use Rattle.event_words.specs.declared.event.Direction.TheVariants.{Asserted, Deasserted}
use Rattle.hex.specs.Hex.{encode_with}
use Rattle.event_words.specs.SensorTypes.{sensor_type_words}
use Rattle.event_words.specs.GenericStates.{generic_words}
use Rattle.event_words.specs.SensorStates.{sensor_words}
use Rattle.event_words.specs.Severities.{severity_words}
use Rattle.event_words.specs.Sentence.{sentence}

-- the fan's event of a record, and of a trap with severity 10h
abbrev fan : Option ℕ → Event
fan severity = record {
  sensor_type = 0x04;
  sensor = 0x30;
  event_type = 0x01;
  direction = Asserted;
  offset = 2;
  event_data = 0x52 ∷ 0x10 ∷ 0x20 ∷ [];
  severity = severity;
}

of_record : sentence (fan None) ≡ codes "fan, sensor 30h: lower critical, going low, asserted; reading 10h, threshold 20h"
unfolding encode_with sensor_type_words generic_words
of_record = refl

of_trap : sentence (fan (Some 0x10)) ≡ codes "fan, sensor 30h: lower critical, going low, asserted (critical); reading 10h, threshold 20h"
unfolding encode_with sensor_type_words generic_words severity_words
of_trap = refl

-- a power supply's own state that went, with its previous one and an OEM code; and an OEM type
abbrev supply : ℕ → Event
supply event_type = record {
  sensor_type = 0x08;
  sensor = 0xA1;
  event_type = event_type;
  direction = Deasserted;
  offset = 1;
  event_data = 0x61 ∷ 0xF0 ∷ 0x07 ∷ [];
  severity = None;
}

of_supply : sentence (supply 0x6F) ≡ codes "power supply, sensor a1h: power supply failure detected, deasserted; previously presence detected, OEM code 07h in event data 3"
unfolding encode_with sensor_type_words sensor_words
of_supply = refl

of_oem : sentence (supply 0x70) ≡ codes "power supply, sensor a1h: OEM event type 70h, offset 01h, deasserted; previous state or severity f0h, OEM code 07h in event data 3"
unfolding encode_with sensor_type_words
of_oem = refl
