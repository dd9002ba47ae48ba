-- A string that is a GUID.
use Rattle.std.proofs.Common.{◌≡◌, ℕ, List, Option, Some, None, Result, Ok, Err, IsOk, IfOk, refl, sym, ap, ◌∙◌}
use Rattle.std.specs.Result.{result_ok}
use Rattle.toml.specs.Data.{Data, as_str, string, integer, float, boolean, datetime, array, table}
use Rattle.uuid.specs.Text.{parsed}
use Rattle.pef_settings.specs.Settings.{guid_in}

pub guid_text : (value : Data) (text : List ℕ) → as_str value ≡ Some text → guid_in value ≡ parsed text
guid_text (string s) text is = let same : s ≡ text = cc is in ap parsed same
guid_text (integer z) text is = absurd (cc is)
guid_text (float x) text is = absurd (cc is)
guid_text (boolean b) text is = absurd (cc is)
guid_text (datetime dt) text is = absurd (cc is)
guid_text (array ds) text is = absurd (cc is)
guid_text (table ms) text is = absurd (cc is)

pub parsed_none : {E : Type 0} (r : Result (List ℕ) E) (p : Option (List ℕ)) → ((guid : List ℕ) × (p ≡ Some guid) → IsOk r) → result_ok r ≡ None → p ≡ None
parsed_none r None ok none = refl
parsed_none (Ok u) (Some guid) ok none = absurd (cc none)
parsed_none (Err e) (Some guid) ok none = absurd (cc (ok (guid, refl)))

pub parsed_some : {E : Type 0} (r : Result (List ℕ) E) (p : Option (List ℕ)) (guid : List ℕ) → IfOk r (λ u. Some u ≡ p) → result_ok r ≡ Some guid → Some guid ≡ p
parsed_some (Ok u) p guid is some = sym some ∙ is
parsed_some (Err e) p guid is some = absurd (cc some)
