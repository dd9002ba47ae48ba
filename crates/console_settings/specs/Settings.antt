-- A console's settings: the kind of its state file, and the settings octets that a text gives. Both are this project's own.
use Rattle.std.specs.Prelude.{ℕ, List, [], ◌∷◌, option_map, Option, Result}
use Rattle.std.specs.Int.{to_le_bytes, w16}
use Rattle.pef_journal.specs.declared.kind.FileKind.{FileKind}
use Rattle.report_line.specs.declared.refusal.SettingsKey.TheVariants.{AckPort}
use Rattle.report_line.specs.declared.refusal.SettingsRefusal.{SettingsRefusal}
use Rattle.settings_document.specs.Document.{Field, field, settings_by}
use Rattle.settings_document.specs.Values.{number_or}
use Rattle.toml.specs.Data.{Data}

-- the kind of a console's state file
abbrev pub console : FileKind
console = record { number = 2; settings = 2 }

-- The port for acknowledgements, its least significant octet first, and where the key is missing 623, the port of RMCP (ASF 2.0,
-- section 3.2).
abbrev pub port_octets : Option Data → Option (List ℕ)
port_octets at = option_map (to_le_bytes w16) (number_or 623 65535 at)

-- the one key
abbrev pub fields : List Field
fields = field AckPort port_octets ∷ []

-- the settings octets that a text gives, or why it is refused
abbrev pub settings_of : List ℕ → Result (List ℕ) SettingsRefusal
settings_of text = settings_by fields text
