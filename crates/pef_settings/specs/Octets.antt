-- The octets of settings that were read.
use Rattle.std.specs.Prelude.{ℕ, List, [], ◌∷◌, Result, Ok, Err}
use Rattle.std.specs.Int.{to_le_bytes, w16, w32}
use Rattle.std.specs.List.{concat}
use Rattle.pef_settings.specs.declared.settings.Settings.{Settings}
use Rattle.report_line.specs.declared.refusal.SettingsRefusal.{SettingsRefusal}

-- in the order of the keys
abbrev pub settings_octets : Settings → List ℕ
settings_octets s =
    concat (s.guid ∷ s.agent ∷ to_le_bytes w32 s.manufacturer ∷ to_le_bytes w16 s.system
    ∷ to_le_bytes w16 s.pet_port ∷ to_le_bytes w16 s.oem1_port ∷ to_le_bytes w16 s.oem2_port
    ∷ (s.control ∷ []) ∷ (s.actions ∷ []) ∷ (s.delay ∷ []) ∷ s.filter ∷ [])

abbrev pub octets_read : Result Settings SettingsRefusal → Result (List ℕ) SettingsRefusal
octets_read (Ok settings) = Ok (settings_octets settings)
octets_read (Err why) = Err why
