-- A row has a key exactly where its key is that one, and the order of keys tells keys apart.
use Rattle.std.proofs.Common.{◌≡◌, ℕ, true, List, refl, sym, ◌∙◌, ap, subst}
use Rattle.std.specs.declared.cmp.Ordering.{Ordering}
use Rattle.std.specs.declared.cmp.Ordering.TheVariants.{Less, Equal, Greater}
use Rattle.std.specs.Ordering.{ordering_then}
use Rattle.std.proofs.lemmas.Bool.{and_parts, and_from, eqb-true, eq-eqb}
use Rattle.std.proofs.lemmas.Map.Lookups.{exact_bytes, exact_unsigned}
use Rattle.std.proofs.lemmas.Slice.Eq.{bytes_eq-Decides}
use Rattle.trap_console.specs.declared.key.Key.{Key}
use Rattle.trap_console.specs.declared.row.Row.{Row}
use Rattle.trap_console.specs.Rows.{key_of, is_key}
use Rattle.trap_console.specs.Index.{key_order}

both_equal : (o p : Ordering) → ordering_then o p ≡ Equal → (o ≡ Equal) × (p ≡ Equal)
both_equal Less p e = absurd cc
both_equal Equal p e = (refl, e)
both_equal Greater p e = absurd cc

abbrev key_with : List ℕ → ℕ → ℕ → Key
key_with guid sequence timestamp = record { guid = guid; sequence = sequence; timestamp = timestamp }

same_parts : (x y : Key) → x.guid ≡ y.guid → x.sequence ≡ y.sequence → x.timestamp ≡ y.timestamp → x ≡ y
same_parts x y guid sequence timestamp =
    ap (λ g. key_with g x.sequence x.timestamp) guid ∙ ap (λ s. key_with y.guid s x.timestamp) sequence ∙ ap (λ t. key_with y.guid y.sequence t) timestamp

pub key_is : (x y : Key) → key_order x y ≡ Equal → x ≡ y
key_is x y e =
    let outer = both_equal _ _ e in
    let inner = both_equal _ _ outer.1 in
    same_parts x y (exact_bytes x.guid y.guid outer.0) (exact_unsigned x.sequence y.sequence inner.0) (exact_unsigned x.timestamp y.timestamp inner.1)

pub is_key_means : (key : Key) (row : Row) → is_key key row ≡ true → key_of row.body ≡ key
is_key_means key row is =
    let outer = and_parts _ _ is in
    let inner = and_parts _ _ outer.1 in
    same_parts (key_of row.body) key ((bytes_eq-Decides row.body.guid key.guid).0 outer.0) (eqb-true _ _ inner.0) (eqb-true _ _ inner.1)

is_key_self : (row : Row) → is_key (key_of row.body) row ≡ true
is_key_self row = and_from _ _ ((bytes_eq-Decides row.body.guid row.body.guid).1 refl) (and_from _ _ (eq-eqb row.body.sequence row.body.sequence refl) (eq-eqb row.body.timestamp row.body.timestamp refl))

pub is_key_at : (key : Key) (row : Row) → key ≡ key_of row.body → is_key key row ≡ true
is_key_at key row same = subst (λ k. is_key k row ≡ true) (sym same) (is_key_self row)
