-- A row is found by its key where each row is in the index, and rows that are added stay in it.
use Rattle.std.proofs.Common.{◌≡◌, ◌⊎◌, ℕ, true, false, cond, List, [], ◌∷◌, ◌++◌, length, Option, Some, None, Result, Ok, Err, refl, sym, ◌∙◌, ap, subst, inl, inr}
use Rattle.std.specs.List.{slice_get}
use Rattle.std.specs.BTreeMap.{BTreeMap, get, Updates, IsUnchanged}
use Rattle.std.specs.Map.{lookup}
use Rattle.std.specs.Result.{OnOk, OnErr}
use Rattle.std.specs.Cmp.{Equal-is}
use Rattle.std.specs.Ordering.{is_eq}
use Rattle.std.proofs.lemmas.Bool.{cases_Bool}
use Rattle.trap_console.specs.declared.key.Key.{Key}
use Rattle.trap_console.specs.declared.row.Row.{Row}
use Rattle.trap_console.specs.Rows.{key_of, is_key, place_in}
use Rattle.trap_console.specs.Index.{key_order, IsIndexed}
use Rattle.trap_console.proofs.Keys.{key_is, is_key_means, is_key_at}
use Rattle.trap_console.proofs.Places.{passes_at, some_passes, push_cases}

cases_Option : {A : Type 0} (o : Option A) → (o ≡ None) ⊎ ((x : A) × (o ≡ Some x))
cases_Option None = inl refl
cases_Option (Some x) = inr (x, refl)

is_some_place : (i j : ℕ) → Some i ≡ Some j → i ≡ j
is_some_place i j e = cc

module _ (rows : List Row) (places : BTreeMap Key ℕ) (indexed : IsIndexed rows places) (key : Key) where
  -- the index has the place of the row with the key
  finds : (j : ℕ) → place_in rows key ≡ Some j → get key_order places key ≡ Some j
  finds j at =
      let row = passes_at (is_key key) rows j at in
      subst (λ k. get key_order places k ≡ Some j) (is_key_means key row.0 row.2) (indexed j row.0 row.1)

  -- nothing is found where the index has nothing
  pub absent : get key_order places key ≡ None → place_in rows key ≡ None
  absent none = elim (cases_Option (place_in rows key)) [
    | inl is ↦ is
    | inr at ↦ absurd (let found = finds at.0 at.1 in cc (none, found))
  ]

  -- the row at the place that the index has, where it has the key
  pub found : (place : ℕ) (row : Row) → get key_order places key ≡ Some place → slice_get rows place ≡ Some row → is_key key row ≡ true → place_in rows key ≡ Some place
  found place row has got is =
      let at = some_passes (is_key key) rows place row got is in
      at.1 ∙ ap Some (is_some_place at.0 place (sym (finds at.0 at.1) ∙ has))

  -- nothing is found where no row stands at that place
  pub past : (place : ℕ) → get key_order places key ≡ Some place → slice_get rows place ≡ None → place_in rows key ≡ None
  past place has none = elim (cases_Option (place_in rows key)) [
    | inl is ↦ is
    | inr at ↦
        let row = passes_at (is_key key) rows at.0 at.1 in
        let same : at.0 ≡ place = is_some_place at.0 place (sym (finds at.0 at.1) ∙ has) in
        let got : slice_get rows place ≡ Some row.0 = subst (λ k. slice_get rows k ≡ Some row.0) same row.1 in
        absurd (cc (none, got))
  ]

  -- nothing is found where the row at that place has another key
  pub other : (place : ℕ) (row : Row) → get key_order places key ≡ Some place → slice_get rows place ≡ Some row → is_key key row ≡ false → place_in rows key ≡ None
  other place row has got isnt = elim (cases_Option (place_in rows key)) [
    | inl is ↦ is
    | inr at ↦
        let one = passes_at (is_key key) rows at.0 at.1 in
        let same : at.0 ≡ place = is_some_place at.0 place (sym (finds at.0 at.1) ∙ has) in
        let got_one : slice_get rows place ≡ Some one.0 = subst (λ k. slice_get rows k ≡ Some one.0) same one.1 in
        let passes : is_key key one.0 ≡ true = one.2 in
        absurd (cc (got, got_one, passes, isnt))
  ]

  -- a new key in the index leaves the rows in it
  stays : (count : ℕ) (new : BTreeMap Key ℕ) → place_in rows key ≡ None → Updates key_order places new key (Some count) → IsIndexed rows new
  stays count new none updates place row at = elim (cases_Bool (is_eq (key_order key (key_of row.body)))) [
    | inl equal ↦
        let same : key ≡ key_of row.body = key_is key (key_of row.body) ((Equal-is (key_order key (key_of row.body))).0 equal) in
        let somewhere = some_passes (is_key key) rows place row at (is_key_at key row same) in
        absurd (let there = somewhere.1 in cc (none, there))
    | inr apart ↦
        updates.0 (key_of row.body) ∙ ap (λ b. cond b (Some count) (get key_order places (key_of row.body))) apart ∙ indexed place row at
  ]

  -- the rows are in the index whether it took a new key or had no memory for it
  pub stays_either : {A B : Type 0} (result : Result A B) (count : ℕ) (new : BTreeMap Key ℕ) → place_in rows key ≡ None
      → OnOk result (Updates key_order places new key (Some count)) → OnErr result (IsUnchanged places new) → IsIndexed rows new
  stays_either (Ok x) count new none updates unchanged = stays count new none updates
  stays_either (Err e) count new none updates unchanged =
      λ place row at. ap (λ entries. lookup (λ k. is_eq (key_order (key_of row.body) k)) entries) unchanged ∙ indexed place row at

-- a row at the end whose place the index has
pub pushed : (rows : List Row) (places : BTreeMap Key ℕ) → IsIndexed rows places → (row : Row) → get key_order places (key_of row.body) ≡ Some (length rows) → IsIndexed (rows ++ row ∷ []) places
pushed rows places indexed row has place other at = elim (push_cases rows row place other at) [
  | inl within ↦ indexed place other within
  | inr last ↦ subst (λ r. get key_order places (key_of r.body) ≡ Some place) last.1 (subst (λ n. get key_order places (key_of row.body) ≡ Some n) (sym last.0) has)
]
