-- The keys of settings documents, and the word for why a settings text is refused. They are this project's own.
use Rattle.std.specs.Prelude.{ℕ, List, codes}
use Rattle.report_line.specs.declared.refusal.SettingsKey.{SettingsKey}
use Rattle.report_line.specs.declared.refusal.SettingsKey.TheVariants.{Guid, Agent, Manufacturer, System, PetPort, Oem1Port, Oem2Port, Control, Actions, Delay, Filter, AckPort}
use Rattle.report_line.specs.declared.refusal.SettingsRefusal.{SettingsRefusal}
use Rattle.report_line.specs.declared.refusal.SettingsRefusal.TheVariants.{Long, Text, Key, Unknown}

-- a key as a document has it
abbrev pub key_name : SettingsKey → List ℕ
key_name Guid = codes "guid"
key_name Agent = codes "agent"
key_name Manufacturer = codes "manufacturer"
key_name System = codes "system"
key_name PetPort = codes "pet_port"
key_name Oem1Port = codes "oem1_port"
key_name Oem2Port = codes "oem2_port"
key_name Control = codes "control"
key_name Actions = codes "actions"
key_name Delay = codes "delay"
key_name Filter = codes "filter"
key_name AckPort = codes "ack_port"

-- the word of the last line that says why
abbrev pub refusal_word : SettingsRefusal → List ℕ
refusal_word Long = codes "long"
refusal_word Text = codes "text"
refusal_word (Key key) = key_name key
refusal_word Unknown = codes "unknown"
