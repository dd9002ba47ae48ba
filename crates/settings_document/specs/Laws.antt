-- What holds of every settings text.
use Rattle.std.proofs.Common.{◌≡◌, ◌<◌, ℕ, true, nat_lt, List, length, Err, ap, refl}
use Rattle.std.proofs.lemmas.Bool.{lt-ltb}
use Rattle.report_line.specs.declared.refusal.SettingsRefusal.TheVariants.{Long}
use Rattle.script_text.specs.Whole.{text_limit}
use Rattle.settings_document.specs.Document.{Field, document_of, settings_in, settings_by}

is_long : (text : List ℕ) → text_limit < length text → nat_lt 65536 (length text) ≡ true
is_long text long = lt-ltb 65536 (length text) long

-- a longer text than one that is read whole is refused as such
pub long_refused : (fields : List Field) (text : List ℕ) → text_limit < length text → settings_by fields text ≡ Err Long
long_refused fields text long =
    let refused : document_of text ≡ Err Long = rw (is_long text long) refl in
    ap (settings_in fields) refused
