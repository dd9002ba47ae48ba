-- Which kind of event type a code is: IPMI 2.0, table 42-1. The code is bits 6:0 of an event's trigger.
use Rattle.std.specs.Prelude.{ℕ, ◌==◌, ◌&&◌, nat_le, if◌then◌else◌}
use Rattle.event_words.specs.declared.event_type.EventType.{EventType}
use Rattle.event_words.specs.declared.event_type.EventType.TheVariants.{Unspecified, Threshold, Generic, SensorSpecific, Oem, Reserved}
use Rattle.event_words.specs.declared.event.Direction.{Direction}
use Rattle.event_words.specs.declared.event.Direction.TheVariants.{Asserted, Deasserted}

abbrev pub event_type : ℕ → EventType
event_type code =
    if code == 0x00 then Unspecified
    else if code == 0x01 then Threshold
    else if nat_le 0x02 code && nat_le code 0x0C then Generic code
    else if code == 0x6F then SensorSpecific
    else if nat_le 0x70 code && nat_le code 0x7F then Oem code
    else Reserved code

-- bit 7 of a trigger is 1 for a deassertion: IPMI 2.0, section 29.7
abbrev pub direction : ℕ → Direction
direction trigger = if nat_le 0x80 trigger then Deasserted else Asserted
