-- The keys of a table, one after the other.
use Rattle.std.proofs.Common.{◌≡◌, ℕ, List, [], ◌∷◌, ◌++◌, Option, Some, None, option_map, Result, Ok, Err, ok_or, refl, sym, ◌∙◌, ap, append_assoc}
use Rattle.report_line.specs.Refusal.{key_name}
use Rattle.report_line.specs.declared.refusal.SettingsKey.{SettingsKey}
use Rattle.report_line.specs.declared.refusal.SettingsRefusal.{SettingsRefusal}
use Rattle.report_line.specs.declared.refusal.SettingsRefusal.TheVariants.{Key}
use Rattle.settings_document.specs.Document.{Field, with_field, in_front, octets_of}
use Rattle.toml.specs.Data.{Members, get_member}

some_of : {A : Type 0} (key : SettingsKey) (o : Option A) (x : A) → ok_or o (Key key) ≡ Ok x → o ≡ Some x
some_of key (Some y) x e = cc e
some_of key None x e = absurd (cc e)

none_of : {A : Type 0} (key : SettingsKey) (o : Option A) (why : SettingsRefusal) → ok_or o (Key key) ≡ Err why → (o ≡ None) × (why ≡ Key key)
none_of key (Some y) why e = absurd (cc e)
none_of key None why e = (refl, cc e)

-- a key that was read, whose octets are those of its value
pub passed : {A : Type 0} (f : Field) (fields : List Field) (members : Members) (o : Option A) (octets : A → List ℕ) (r : Result A SettingsRefusal) (x : A)
    → f.octets (get_member (key_name f.key) members) ≡ option_map octets o → r ≡ ok_or o (Key f.key) → r ≡ Ok x → octets_of (f ∷ fields) members ≡ in_front (octets x) (octets_of fields members)
passed f fields members o octets r x gives reads ok =
    ap (λ g. with_field f.key g (octets_of fields members)) (gives ∙ ap (option_map octets) (some_of f.key o x (sym reads ∙ ok)))

-- a key that was refused
pub stopped : {A : Type 0} (f : Field) (fields : List Field) (members : Members) (o : Option A) (octets : A → List ℕ) (r : Result A SettingsRefusal) (why : SettingsRefusal)
    → f.octets (get_member (key_name f.key) members) ≡ option_map octets o → r ≡ ok_or o (Key f.key) → r ≡ Err why → octets_of (f ∷ fields) members ≡ Err why
stopped f fields members o octets r why gives reads err =
    let none = none_of f.key o why (sym reads ∙ err) in
    ap (λ g. with_field f.key g (octets_of fields members)) (gives ∙ ap (option_map octets) none.0) ∙ ap Err (sym none.1)

-- where the value is the octets
pub as_it_is : (o : Option (List ℕ)) → o ≡ option_map (λ octets. octets) o
as_it_is None = refl
as_it_is (Some octets) = refl

-- nine lists, joined from the left or from the right
pub joined : (a b c d e f g h i : List ℕ) → ((((((((([] ++ a) ++ b) ++ c) ++ d) ++ e) ++ f) ++ g) ++ h) ++ i) ≡ a ++ (b ++ (c ++ (d ++ (e ++ (f ++ (g ++ (h ++ i)))))))
joined a b c d e f g h i =
    append_assoc (a ++ b ++ c ++ d ++ e ++ f ++ g) h i ∙ append_assoc (a ++ b ++ c ++ d ++ e ++ f) g (h ++ i) ∙ append_assoc (a ++ b ++ c ++ d ++ e) f (g ++ (h ++ i))
    ∙ append_assoc (a ++ b ++ c ++ d) e (f ++ (g ++ (h ++ i))) ∙ append_assoc (a ++ b ++ c) d (e ++ (f ++ (g ++ (h ++ i)))) ∙ append_assoc (a ++ b) c (d ++ (e ++ (f ++ (g ++ (h ++ i)))))
    ∙ append_assoc a b (c ++ (d ++ (e ++ (f ++ (g ++ (h ++ i))))))
