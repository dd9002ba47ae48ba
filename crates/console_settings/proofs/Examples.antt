-- The definitions on worked documents and texts.
use Rattle.std.proofs.Common.{◌≡◌, ◌∷◌, [], Ok, Err, pos, refl, codes}
use Rattle.std.specs.Str.{chars, is_utf8}
use Rattle.report_line.specs.declared.refusal.SettingsKey.TheVariants.{AckPort}
use Rattle.report_line.specs.declared.refusal.SettingsRefusal.TheVariants.{Text, Key, Unknown}
use Rattle.settings_document.specs.Document.{settings_in}
use Rattle.toml.specs.Data.{no_members, member, integer, string}
use Rattle.toml.proofs.OnLiterals.{toml_on_literals}
use Rattle.console_settings.specs.Settings.{fields, settings_of}

none_said : settings_in fields (Ok no_members) ≡ Ok (0x6F ∷ 2 ∷ [])
none_said = refl

low_first : settings_in fields (Ok (member (codes "ack_port") (integer (pos 664)) no_members)) ≡ Ok (0x98 ∷ 2 ∷ [])
low_first = refl

greatest : settings_in fields (Ok (member (codes "ack_port") (integer (pos 65535)) no_members)) ≡ Ok (0xFF ∷ 0xFF ∷ [])
greatest = refl

too_great : settings_in fields (Ok (member (codes "ack_port") (integer (pos 65536)) no_members)) ≡ Err (Key AckPort)
too_great = refl

no_number : settings_in fields (Ok (member (codes "ack_port") (string (codes "623")) no_members)) ≡ Err (Key AckPort)
no_number = refl

another_key : settings_in fields (Ok (member (codes "ack_port") (integer (pos 623)) (member (codes "x") (integer (pos 1)) no_members))) ≡ Err Unknown
another_key = refl

the_key_first : settings_in fields (Ok (member (codes "ack_port") (integer (pos 65536)) (member (codes "x") (integer (pos 1)) no_members))) ≡ Err (Key AckPort)
the_key_first = refl

a_line : settings_of (codes "ack_port = 664\n") ≡ Ok (0x98 ∷ 2 ∷ [])
unfolding toml_on_literals is_utf8 chars
a_line = refl

no_document : settings_of (codes "ack_port") ≡ Err Text
unfolding toml_on_literals is_utf8 chars
no_document = refl
