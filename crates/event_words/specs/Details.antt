-- What event data 2 and 3 hold, by bits 7:6 and 5:4 of event data 1 and the class of the event type: IPMI 2.0, section 29.7, table 29-6.
use Rattle.std.specs.Prelude.{ℕ, ◌/◌, ◌%◌, ◌==◌, if◌then◌else◌, Option, Some, None}
use Rattle.event_words.specs.declared.event_type.EventType.{EventType}
use Rattle.event_words.specs.declared.event_type.EventType.TheVariants.{Unspecified, Threshold as ThresholdType, Generic, SensorSpecific, Oem as OemType, Reserved as ReservedType}
use Rattle.event_words.specs.declared.detail.Detail.{Detail}
use Rattle.event_words.specs.declared.detail.Detail.TheVariants.{Reading, Threshold, Previous, OemPrevious, Oem, Extension, Reserved}

-- bits 7:6 say what event data 2 is, bits 5:4 what event data 3 is
abbrev pub use_of_2 : ℕ → ℕ
use_of_2 first = first / 64

abbrev pub use_of_3 : ℕ → ℕ
use_of_3 first = first / 16 % 4

-- 00b is unspecified; then what 01b, 10b and 11b mean
abbrev pub by_bits : ℕ → Detail → Detail → Detail → Option Detail
by_bits bits one two three = if bits == 0 then None else if bits == 1 then Some one else if bits == 2 then Some two else Some three

-- event data 2, whose octet is v
abbrev pub detail_2 : EventType → ℕ → ℕ → Option Detail
detail_2 Unspecified bits v = None
detail_2 ThresholdType bits v = by_bits bits (Reading v) (Oem v) (Extension v)
detail_2 (Generic code) bits v = by_bits bits (Previous v) (Oem v) (Extension v)
detail_2 SensorSpecific bits v = by_bits bits (Previous v) (Oem v) (Extension v)
detail_2 (OemType code) bits v = by_bits bits (OemPrevious v) (Oem v) (Reserved v)
detail_2 (ReservedType code) bits v = None

-- event data 3, whose octet is v
abbrev pub detail_3 : EventType → ℕ → ℕ → Option Detail
detail_3 Unspecified bits v = None
detail_3 ThresholdType bits v = by_bits bits (Threshold v) (Oem v) (Extension v)
detail_3 (Generic code) bits v = by_bits bits (Reserved v) (Oem v) (Extension v)
detail_3 SensorSpecific bits v = by_bits bits (Reserved v) (Oem v) (Extension v)
detail_3 (OemType code) bits v = by_bits bits (Reserved v) (Oem v) (Reserved v)
detail_3 (ReservedType code) bits v = None
