-- Documents as the code reads them, and the keys of their tables.
use Rattle.std.proofs.Common.{◌≡◌, ◌≤◌, ◌&&◌, ℕ, Bool, true, false, nat_lt, if◌then◌else◌, List, [], ◌∷◌, length, Some, None, Ok, Err, String, Global, string_bytes, refl, sym, ◌∙◌, ap, arith}
use Rattle.std.proofs.lemmas.Bool.Decides.{nat_tests}
use Rattle.std.proofs.lemmas.Str.{is_utf8-from_IsUtf8, IsUtf8-from_is_utf8}
use Rattle.std.specs.List.{list_all}
use Rattle.std.specs.Map.{keys_of}
use Rattle.std.specs.Str.{IsUtf8, is_utf8}
use Rattle.report_line.specs.declared.refusal.SettingsKey.{SettingsKey}
use Rattle.report_line.specs.declared.refusal.SettingsRefusal.{SettingsRefusal}
use Rattle.report_line.specs.declared.refusal.SettingsRefusal.TheVariants.{Text}
use Rattle.script_text.specs.declared.settings.SettingsFault.{SettingsFault}
use Rattle.script_text.specs.declared.settings.SettingsFault.TheVariants.{Refused, Memory as NoMemory}
use Rattle.toml.specs.declared.de.error.Error.{Error}
use Rattle.toml.specs.Errors.{IsBlank, IsMemory}
use Rattle.toml.specs.Data.{Members}
use Rattle.toml.specs.Parse.{parse_document}
use Rattle.toml.specs.View.{members_view}
use Rattle.toml.specs.declared.value.Value.{Value}
use Rattle.settings_document.specs.Document.{members_in, members_or_text, document_of, has_key, has_only}

not_long : (text : List ℕ) → length text ≤ 65536 → document_of text ≡ members_or_text (members_in text)
not_long text short = let at_most : nat_lt 65536 (length text) ≡ false = grind (arith, nat_tests) in rw at_most refl

pub document_read : (text : List ℕ) (members : Members) → length text ≤ 65536 → IsUtf8 text → parse_document text ≡ Some members → document_of text ≡ Ok members
document_read text members short utf8 parses =
    let test = is_utf8-from_IsUtf8 text utf8 in
    let inside : members_in text ≡ Some members = rw test parses in
    not_long text short ∙ ap members_or_text inside

pub no_document : (text : List ℕ) → length text ≤ 65536 → (IsUtf8 text → parse_document text ≡ None) → document_of text ≡ Err Text
no_document text short none = not_long text short ∙ ap members_or_text (by (is_utf8 text) (IsUtf8-from_is_utf8 text))
  where
    by : (t : Bool) → (t ≡ true → IsUtf8 text) → (if t then parse_document text else None) ≡ None
    by true utf8 = none (utf8 refl)
    by false utf8 = refl

-- each of these names is a key
abbrev pub all_named : List SettingsKey → List (String Global) → Bool
all_named keys names = list_all (λ name. has_key keys (string_bytes name)) names

-- the names are tested one after the other
pub names_tested : (keys : List SettingsKey) (entries : List (String Global × Value)) → has_only keys (members_view entries) ≡ all_named keys (keys_of entries)
names_tested keys [] = refl
names_tested keys (e ∷ entries) = ap (λ b. has_key keys (string_bytes e.0) && b) (names_tested keys entries)

pub name_known : (keys : List SettingsKey) (whole : Bool) (left rest : List (String Global)) (name : String Global) → whole ≡ all_named keys left → left ≡ name ∷ rest → has_key keys (string_bytes name) ≡ true → whole ≡ all_named keys rest
name_known keys whole left rest name is next known = is ∙ ap (all_named keys) next ∙ ap (λ b. b && all_named keys rest) known

pub name_refused : (keys : List SettingsKey) (whole : Bool) (left rest : List (String Global)) (name : String Global) → whole ≡ all_named keys left → left ≡ name ∷ rest → has_key keys (string_bytes name) ≡ false → false ≡ whole
name_refused keys whole left rest name is next other = sym (is ∙ ap (all_named keys) next ∙ ap (λ b. b && all_named keys rest) other)

pub names_over : (keys : List SettingsKey) (whole : Bool) (left : List (String Global)) → whole ≡ all_named keys left → left ≡ [] → true ≡ whole
names_over keys whole left is none = sym (is ∙ ap (all_named keys) none)

-- what the reader refuses, unless there was no memory, is no document
pub refused_as_text : (text : List ℕ) (fault : Error) (told : SettingsFault) (why : SettingsRefusal) → length text ≤ 65536 → (¬ IsMemory fault → IsUtf8 text → parse_document text ≡ None)
    → (IsMemory fault → told ≡ NoMemory) → (¬ IsMemory fault → told ≡ Refused Text) → told ≡ Refused why → document_of text ≡ Err why
refused_as_text text fault told why short none memory refused is =
    let kept : ¬ IsMemory fault = λ m. let clash : NoMemory ≡ Refused why = sym (memory m) ∙ is in cc clash in
    let same : Refused Text ≡ Refused why = sym (refused kept) ∙ is in
    no_document text short (none kept) ∙ ap Err (cc same)

-- what the reader refuses since it is out of memory isn't blank
pub wants_memory : (text : List ℕ) (fault : Error) (told : SettingsFault) → (IsMemory fault → ¬ IsBlank text) → (¬ IsMemory fault → told ≡ Refused Text) → told ≡ NoMemory → ¬ IsBlank text
wants_memory text fault told memory refused is blank =
    let clash : NoMemory ≡ Refused Text = sym is ∙ refused (λ m. memory m blank) in cc clash
