-- What stands at a key of a settings document.
use Rattle.std.specs.Prelude.{ℕ, pos, nat_le, if◌then◌else◌, Option, Some, None, Result, ok_or}
use Rattle.report_line.specs.declared.refusal.SettingsKey.{SettingsKey}
use Rattle.report_line.specs.declared.refusal.SettingsRefusal.{SettingsRefusal}
use Rattle.report_line.specs.declared.refusal.SettingsRefusal.TheVariants.{Key}
use Rattle.toml.specs.Data.{Data, integer}

-- a whole number from 0 to the greatest; a float, a string or another value is none
abbrev pub number_in : ℕ → Data → Option ℕ
number_in greatest (integer (pos n)) = if nat_le n greatest then Some n else None
number_in greatest other = None

-- what stands at a key that has to be there
abbrev pub required : {A : Type 0} → (Data → Option A) → Option Data → Option A
required reads None = None
required reads (Some value) = reads value

-- what stands at a key, and this where the key is missing
abbrev pub or_default : {A : Type 0} → A → (Data → Option A) → Option Data → Option A
or_default default reads None = Some default
or_default default reads (Some value) = reads value

-- a whole number from 0 to the greatest, and this one where the key is missing
abbrev pub number_or : ℕ → ℕ → Option Data → Option ℕ
number_or default greatest = or_default default (number_in greatest)

-- what a key gives by a value that may be missing, or why it is refused
abbrev pub at_key : {A : Type 0} → SettingsKey → Option A → Result A SettingsRefusal
at_key key value = ok_or value (Key key)
