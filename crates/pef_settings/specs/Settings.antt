-- A controller's settings: the kind of its state file, and the settings octets that a text gives. The document and the order of
-- the octets are this project's own; what they set is in IPMI 2.0 (GUID: section 20.8; PEF parameters: section 30.3) and PET 1.0.
use Rattle.std.specs.Prelude.{ℕ, List, [], ◌∷◌, option_map, replicate, Option, None, Result}
use Rattle.std.specs.Int.{to_le_bytes, w16, w32}
use Rattle.pef_journal.specs.declared.kind.FileKind.{FileKind}
use Rattle.report_line.specs.declared.refusal.SettingsKey.TheVariants.{Guid, Agent, Manufacturer, System, PetPort, Oem1Port, Oem2Port, Control, Actions, Delay, Filter}
use Rattle.report_line.specs.declared.refusal.SettingsRefusal.{SettingsRefusal}
use Rattle.script_text.specs.Forms.{ip_of, octets_exactly}
use Rattle.settings_document.specs.Document.{Field, field, settings_by}
use Rattle.settings_document.specs.Values.{required, or_default, number_or}
use Rattle.toml.specs.Data.{Data, string}
use Rattle.uuid.specs.Text.{parsed}

-- the kind of a controller's state file
abbrev pub controller : FileKind
controller = record { number = 1; settings = 55 }

-- a string that is a GUID, in each form that a UUID's text may have
abbrev pub guid_in : Data → Option (List ℕ)
guid_in (string text) = parsed text
guid_in other = None

-- a string that is an IPv4 address
abbrev pub agent_in : Data → Option (List ℕ)
agent_in (string text) = ip_of text
agent_in other = None

-- a string of 40 hexadecimal digits
abbrev pub filter_in : Data → Option (List ℕ)
filter_in (string text) = octets_exactly 20 text
filter_in other = None

-- whole numbers of four octets, of two and of one, the least significant octet first, with what they are where the key is missing
abbrev pub four_octets : ℕ → Option Data → Option (List ℕ)
four_octets default at = option_map (to_le_bytes w32) (number_or default 4294967295 at)

abbrev pub two_octets : ℕ → Option Data → Option (List ℕ)
two_octets default at = option_map (to_le_bytes w16) (number_or default 65535 at)

abbrev pub one_octet : ℕ → Option Data → Option (List ℕ)
one_octet default at = option_map (λ n. n ∷ []) (number_or default 255 at)

-- The keys, in the order of the 55 settings octets: the GUID and the agent address are required, and every other key has a default.
abbrev pub fields : List Field
fields =
    field Guid (required guid_in)
    ∷ field Agent (required agent_in)
    ∷ field Manufacturer (four_octets 0)
    ∷ field System (two_octets 0)
    ∷ field PetPort (two_octets 162)
    ∷ field Oem1Port (two_octets 162)
    ∷ field Oem2Port (two_octets 162)
    ∷ field Control (one_octet 1)
    ∷ field Actions (one_octet 63)
    ∷ field Delay (one_octet 0)
    ∷ field Filter (or_default (replicate 20 0) filter_in)
    ∷ []

-- the settings octets that a text gives, or why it is refused
abbrev pub settings_of : List ℕ → Result (List ℕ) SettingsRefusal
settings_of text = settings_by fields text
