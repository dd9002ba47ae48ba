-- The sentence of an event. The words of codes are the standard's, in small letters but for abbreviations; how they are joined is this project's.
use Rattle.std.specs.Prelude.{ℕ, ◌/◌, ◌%◌, ◌==◌, nat_lt, List, [], ◌++◌, slice_index, Option, Some, None, codes, if◌then◌else◌}
use Rattle.event_words.specs.declared.event_type.EventType.{EventType}
use Rattle.event_words.specs.declared.event_type.EventType.TheVariants.{Unspecified, Threshold as ThresholdType, Generic, SensorSpecific, Oem as OemType, Reserved as ReservedType}
use Rattle.event_words.specs.declared.event.Direction.{Direction}
use Rattle.event_words.specs.declared.event.Direction.TheVariants.{Asserted, Deasserted}
use Rattle.event_words.specs.declared.event.Event.{Event}
use Rattle.event_words.specs.declared.detail.Detail.{Detail}
use Rattle.event_words.specs.declared.detail.Detail.TheVariants.{Reading, Threshold, Previous, OemPrevious, Oem, Extension, Reserved}
use Rattle.event_words.specs.Rows.{coded}
use Rattle.event_words.specs.EventTypes.{event_type}
use Rattle.event_words.specs.GenericStates.{generic_words}
use Rattle.event_words.specs.SensorTypes.{sensor_type_words}
use Rattle.event_words.specs.SensorStates.{sensor_words}
use Rattle.event_words.specs.Severities.{severity_words}
use Rattle.event_words.specs.Details.{use_of_2, use_of_3, detail_2, detail_3}

-- the words that a table has, or else what is said of a code that it hasn't
abbrev pub named_or : Option (List ℕ) → List ℕ → List ℕ
named_or (Some words) other = words
named_or None other = other

-- a sensor type: C0h to FFh are OEM types, and the others that the table hasn't are reserved
abbrev pub sensor_text : ℕ → List ℕ
sensor_text code =
    named_or (sensor_type_words code)
    (if nat_lt code 0xC0 then coded (codes "reserved sensor type ") code else coded (codes "OEM sensor type ") code)

-- a state of a generic event type
abbrev pub generic_text : ℕ → ℕ → List ℕ
generic_text code offset =
    named_or (generic_words code offset) (coded (codes "unknown offset ") offset ++ coded (codes " of event type ") code)

-- a state of a sensor type
abbrev pub specific_text : ℕ → ℕ → List ℕ
specific_text sensor_type offset =
    named_or (sensor_words sensor_type offset) (coded (codes "unknown sensor-specific offset ") offset)

-- a state by the kind of event type, the sensor type and the offset: the table that IPMI 2.0, table 42-1, names
abbrev pub state_text : EventType → ℕ → ℕ → List ℕ
state_text Unspecified sensor_type offset = coded (codes "event type unspecified, offset ") offset
state_text ThresholdType sensor_type offset = generic_text 0x01 offset
state_text (Generic code) sensor_type offset = generic_text code offset
state_text SensorSpecific sensor_type offset = specific_text sensor_type offset
state_text (OemType code) sensor_type offset = coded (codes "OEM event type ") code ++ coded (codes ", offset ") offset
state_text (ReservedType code) sensor_type offset = coded (codes "reserved event type ") code ++ coded (codes ", offset ") offset

abbrev pub direction_text : Direction → List ℕ
direction_text Asserted = codes ", asserted"
direction_text Deasserted = codes ", deasserted"

-- the severity in parentheses, where one is known
abbrev pub severity_text : Option ℕ → List ℕ
severity_text (Some code) = codes " (" ++ named_or (severity_words code) (coded (codes "unknown severity ") code) ++ codes ")"
severity_text None = []

abbrev pub before_text : EventType → ℕ → ℕ → List ℕ
before_text kind sensor_type state = codes "previously " ++ state_text kind sensor_type state

abbrev pub both_before : EventType → ℕ → ℕ → ℕ → List ℕ
both_before kind sensor_type severity state = before_text kind sensor_type state ++ (codes ", severity " ++ generic_text 0x07 severity)

-- bits 3:0 are the offset of the previous state, and bits 7:4 that of a state of the severity type, 07h; 0Fh is unspecified
abbrev pub states_before : EventType → ℕ → ℕ → ℕ → List ℕ
states_before kind sensor_type severity state =
    if state == 0x0F then (if severity == 0x0F then codes "previous state and severity unspecified" else codes "severity " ++ generic_text 0x07 severity)
    else if severity == 0x0F then before_text kind sensor_type state
    else both_before kind sensor_type severity state

-- what an octet of event data holds; `place` names it
abbrev pub detail_text : EventType → ℕ → List ℕ → Detail → List ℕ
detail_text kind sensor_type place (Reading v) = coded (codes "reading ") v
detail_text kind sensor_type place (Threshold v) = coded (codes "threshold ") v
detail_text kind sensor_type place (Previous v) = states_before kind sensor_type (v / 16) (v % 16)
detail_text kind sensor_type place (OemPrevious v) = coded (codes "previous state or severity ") v
detail_text kind sensor_type place (Oem v) = coded (codes "OEM code ") v ++ codes " in " ++ place
detail_text kind sensor_type place (Extension v) = coded (codes "sensor-specific event extension code ") v ++ codes " in " ++ place
detail_text kind sensor_type place (Reserved v) = coded (codes "reserved code ") v ++ codes " in " ++ place

-- what event data 2 and 3 hold, each where it is specified
abbrev pub details_text : EventType → ℕ → Option Detail → Option Detail → List ℕ
details_text kind sensor_type None None = []
details_text kind sensor_type (Some second) None = codes "; " ++ detail_text kind sensor_type (codes "event data 2") second
details_text kind sensor_type None (Some third) = codes "; " ++ detail_text kind sensor_type (codes "event data 3") third
details_text kind sensor_type (Some second) (Some third) =
    codes "; " ++ detail_text kind sensor_type (codes "event data 2") second ++ codes ", " ++ detail_text kind sensor_type (codes "event data 3") third

-- event data 1 to 3 by the kind of event type
abbrev pub data_text : EventType → ℕ → List ℕ → List ℕ
data_text kind sensor_type octets =
    details_text kind sensor_type (detail_2 kind (use_of_2 (slice_index octets 0)) (slice_index octets 1))
    (detail_3 kind (use_of_3 (slice_index octets 0)) (slice_index octets 2))

abbrev pub sentence : Event → List ℕ
sentence event =
    sensor_text event.sensor_type ++ coded (codes ", sensor ") event.sensor ++ codes ": "
    ++ state_text (event_type event.event_type) event.sensor_type event.offset ++ direction_text event.direction
    ++ severity_text event.severity ++ data_text (event_type event.event_type) event.sensor_type event.event_data

-- OEM records have no sensor: IPMI 2.0, section 32.2 (type C0h to DFh, with a timestamp) and section 32.3 (E0h to FFh, without one)
abbrev pub oem_record_text : ℕ → List ℕ
oem_record_text kind =
    if nat_lt kind 0xE0 then coded (codes "OEM timestamped record, type ") kind else coded (codes "OEM non-timestamped record, type ") kind
