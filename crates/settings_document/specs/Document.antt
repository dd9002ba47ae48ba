-- A settings text as a TOML document with a table of keys. That settings are such a document is this project's own.
use Rattle.std.specs.Prelude.{ℕ, Bool, true, ◌&&◌, nat_lt, bytes_eq, if◌then◌else◌, List, [], ◌∷◌, ◌++◌, length, map, Option, Some, None, Result, Ok, Err}
use Rattle.std.specs.List.{list_any}
use Rattle.std.specs.Str.{is_utf8}
use Rattle.toml.specs.Data.{Data, Members, no_members, member, get_member}
use Rattle.toml.specs.Parse.{parse_document}
use Rattle.report_line.specs.Refusal.{key_name}
use Rattle.report_line.specs.declared.refusal.SettingsKey.{SettingsKey}
use Rattle.report_line.specs.declared.refusal.SettingsRefusal.{SettingsRefusal}
use Rattle.report_line.specs.declared.refusal.SettingsRefusal.TheVariants.{Long, Text, Key, Unknown}

-- what a text holds as a TOML document, which is UTF-8
abbrev pub members_in : List ℕ → Option Members
members_in text = if is_utf8 text then parse_document text else None

abbrev pub members_or_text : Option Members → Result Members SettingsRefusal
members_or_text None = Err Text
members_or_text (Some members) = Ok members

-- the document that a text is, or why it is refused: it has more than 65,536 octets, or is none
abbrev pub document_of : List ℕ → Result Members SettingsRefusal
document_of text = if nat_lt 65536 (length text) then Err Long else members_or_text (members_in text)

-- A key of a table, and the octets that what stands there gives: None where that is refused. Where nothing stands there, it is given None.
pub record Field : Type 0 where
  pub key : SettingsKey
  pub octets : Option Data → Option (List ℕ)

abbrev pub field : SettingsKey → (Option Data → Option (List ℕ)) → Field
field key octets = record { key = key; octets = octets }

-- octets in front of those that the keys behind give
abbrev pub in_front : List ℕ → Result (List ℕ) SettingsRefusal → Result (List ℕ) SettingsRefusal
in_front octets (Ok more) = Ok (octets ++ more)
in_front octets (Err why) = Err why

-- a key that is refused is named before those behind it
abbrev pub with_field : SettingsKey → Option (List ℕ) → Result (List ℕ) SettingsRefusal → Result (List ℕ) SettingsRefusal
with_field key None rest = Err (Key key)
with_field key (Some octets) rest = in_front octets rest

-- the octets of a table's keys in its order, one behind the other, or the first key that is refused
abbrev pub octets_of : List Field → Members → Result (List ℕ) SettingsRefusal
octets_of [] _ = Ok []
octets_of (f ∷ fields) members = with_field f.key (f.octets (get_member (key_name f.key) members)) (octets_of fields members)

-- one of these keys has this name
abbrev pub has_key : List SettingsKey → List ℕ → Bool
has_key keys name = list_any (λ key. bytes_eq (key_name key) name) keys

-- the document has no other keys than these
abbrev pub has_only : List SettingsKey → Members → Bool
has_only keys no_members = true
has_only keys (member name value members) = has_key keys name && has_only keys members

-- the keys of a table
abbrev pub keys_of : List Field → List SettingsKey
keys_of fields = map (λ f. f.key) fields

-- another key is refused where no key of the table is
abbrev pub unless_unknown : Bool → Result (List ℕ) SettingsRefusal → Result (List ℕ) SettingsRefusal
unless_unknown known (Err why) = Err why
unless_unknown known (Ok octets) = if known then Ok octets else Err Unknown

abbrev pub settings_in : List Field → Result Members SettingsRefusal → Result (List ℕ) SettingsRefusal
settings_in fields (Err why) = Err why
settings_in fields (Ok members) = unless_unknown (has_only (keys_of fields) members) (octets_of fields members)

-- The settings octets that a text gives by a table of keys, or the first refusal: of its length, of the text, of the first key of the
-- table that is refused, and of another key.
abbrev pub settings_by : List Field → List ℕ → Result (List ℕ) SettingsRefusal
settings_by fields text = settings_in fields (document_of text)
