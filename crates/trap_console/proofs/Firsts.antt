-- The rows of a history are the first of each key of its traps.
use Rattle.std.specs.Prelude.{not, ◌&&◌, is_some}
use Rattle.std.proofs.Common.{◌≡◌, Bool, true, false, cond, List, [], ◌∷◌, ◌++◌, Result, Ok, Err, refl, sym, ◌∙◌, ap, subst, inl, inr, append-nil}
use Rattle.std.specs.List.{fold, filter}
use Rattle.std.proofs.lemmas.Bool.{both_ways}
use Rattle.std.proofs.lemmas.List.{append_assoc}
use Rattle.snmp_trap.specs.declared.refusal.Refusal.{Refusal}
use Rattle.pef_engine.specs.declared.entry.Entry.{Entry}
use Rattle.pef_engine.specs.declared.entry.Entry.TheVariants.{Item as Taken, Outcome}
use Rattle.trap_console.specs.declared.item.Item.{Item}
use Rattle.trap_console.specs.declared.item.Item.TheVariants.{Datagram, Open, Close}
use Rattle.trap_console.specs.declared.row.Row.{Row}
use Rattle.trap_console.specs.Received.{received}
use Rattle.trap_console.specs.Rows.{key_of, is_key, place_in, rows_and, rows_by}
use Rattle.trap_console.specs.Heard.{rows_with, rows_of}
use Rattle.trap_console.specs.Firsts.{traps_by, traps_in, traps_of, firsts}
use Rattle.trap_console.proofs.Keys.{is_key_means, is_key_at}
use Rattle.trap_console.proofs.Places.{passes_at, some_passes, push_cases}
use Rattle.trap_console.proofs.Acks.{stays_behind, got_at_end, is_there, some_there}

-- none of these rows has the key of this trap
abbrev is_other : List Row → Row → Bool
is_other rows trap = not (is_some (place_in rows (key_of trap.body)))

-- a trap with the key of one is known by its own key too
same_way : (x y : Row) → is_key (key_of x.body) y ≡ true → is_key (key_of y.body) x ≡ true
same_way x y is = is_key_at (key_of y.body) x (is_key_means (key_of x.body) y is)

known_behind : (rows : List Row) (trap x : Row) → is_key (key_of trap.body) x ≡ true → is_some (place_in (rows ++ trap ∷ []) (key_of x.body)) ≡ true
known_behind rows trap x is =
    let last = got_at_end rows trap in
    let found = some_passes (is_key (key_of x.body)) (rows ++ trap ∷ []) last.0 trap last.1 (same_way trap x is) in
    some_there (place_in (rows ++ trap ∷ []) (key_of x.body)) found.0 found.1

new_behind : (rows : List Row) (trap x : Row) → is_some (place_in rows (key_of x.body)) ≡ false → is_key (key_of trap.body) x ≡ false
    → is_some (place_in (rows ++ trap ∷ []) (key_of x.body)) ≡ false
new_behind rows trap x isnt differs = by (is_some (place_in (rows ++ trap ∷ []) (key_of x.body))) refl
  where
    by : (b : Bool) → is_some (place_in (rows ++ trap ∷ []) (key_of x.body)) ≡ b → is_some (place_in (rows ++ trap ∷ []) (key_of x.body)) ≡ false
    by false is = is
    by true is =
        let place = is_there (place_in (rows ++ trap ∷ []) (key_of x.body)) is in
        let at = passes_at (is_key (key_of x.body)) (rows ++ trap ∷ []) place.0 place.1 in
        elim (push_cases rows trap place.0 at.0 at.1) [
          | inl within ↦
              let found = some_passes (is_key (key_of x.body)) rows place.0 at.0 within at.2 in
              absurd (both_ways (is_some (place_in rows (key_of x.body))) isnt (some_there (place_in rows (key_of x.body)) found.0 found.1))
          | inr last ↦
              absurd (both_ways (is_key (key_of trap.body) x) differs (same_way x trap (subst (λ r. is_key (key_of x.body) r ≡ true) (sym last.1) at.2)))
        ]

-- another than those and than one more is another than those, and than that one
other_behind : (rows : List Row) (trap x : Row) → is_other (rows ++ trap ∷ []) x ≡ (not (is_key (key_of trap.body) x) && is_other rows x)
other_behind rows trap x = by (is_key (key_of trap.body) x) refl (is_some (place_in rows (key_of x.body))) refl
  where
    by : (k : Bool) → is_key (key_of trap.body) x ≡ k → (b : Bool) → is_some (place_in rows (key_of x.body)) ≡ b
        → is_other (rows ++ trap ∷ []) x ≡ (not (is_key (key_of trap.body) x) && is_other rows x)
    by true key b some = ap not (known_behind rows trap x key) ∙ sym (ap (λ k. not k && is_other rows x) key)
    by false key true some =
        ap not (stays_behind rows trap (key_of x.body) some) ∙ sym (ap (λ k. not k && is_other rows x) key ∙ ap not some)
    by false key false some =
        ap not (new_behind rows trap x some key) ∙ sym (ap (λ k. not k && is_other rows x) key ∙ ap not some)

-- what has the key of a known trap is known
known_with : (rows : List Row) (trap x : Row) → is_some (place_in rows (key_of trap.body)) ≡ true → is_other rows x ≡ (not (is_key (key_of trap.body) x) && is_other rows x)
known_with rows trap x known = by (is_key (key_of trap.body) x) refl
  where
    by : (k : Bool) → is_key (key_of trap.body) x ≡ k → is_other rows x ≡ (not (is_key (key_of trap.body) x) && is_other rows x)
    by true key =
        ap (λ k. not (is_some (place_in rows k))) (is_key_means (key_of trap.body) x key) ∙ ap not known ∙ sym (ap (λ k. not k && is_other rows x) key)
    by false key = sym (ap (λ k. not k && is_other rows x) key)

-- those that pass two tests are those of the one that pass the other
filter_twice : {X : Type 0} (p q r : X → Bool) (xs : List X) → ((x : X) → p x ≡ (q x && r x)) → filter p xs ≡ filter r (filter q xs)
filter_twice p q r [] both = refl
filter_twice p q r (x ∷ xs) both =
    let rest = filter_twice p q r xs both in
    ap (λ b. cond b (x ∷ filter p xs) (filter p xs)) (both x) ∙ by (q x) refl rest
  where
    by : (b : Bool) → q x ≡ b → filter p xs ≡ filter r (filter q xs) → cond (q x && r x) (x ∷ filter p xs) (filter p xs) ≡ filter r (cond (q x) (x ∷ filter q xs) (filter q xs))
    by true is rest =
        ap (λ b. cond (b && r x) (x ∷ filter p xs) (filter p xs)) is ∙ ap (λ ys. cond (r x) (x ∷ ys) ys) rest ∙ sym (ap (λ b. filter r (cond b (x ∷ filter q xs) (filter q xs))) is)
    by false is rest = ap (λ b. cond (b && r x) (x ∷ filter p xs) (filter p xs)) is ∙ rest ∙ sym (ap (λ b. filter r (cond b (x ∷ filter q xs) (filter q xs))) is)

-- one trap more, where this holds of those behind it
added_one : (rows : List Row) (trap : Row) (traps : List Row) → ((known : List Row) → fold rows_and known traps ≡ known ++ filter (is_other known) (firsts traps))
    → fold rows_and (rows_and rows trap) traps ≡ rows ++ filter (is_other rows) (firsts (trap ∷ traps))
added_one rows trap traps rest = by (is_some (place_in rows (key_of trap.body))) refl
  where
    behind : List Row
    behind = filter (λ other. not (is_key (key_of trap.body) other)) (firsts traps)

    by : (b : Bool) → is_some (place_in rows (key_of trap.body)) ≡ b → fold rows_and (rows_and rows trap) traps ≡ rows ++ filter (is_other rows) (trap ∷ behind)
    by true known =
        ap (λ b. fold rows_and (cond b rows (rows ++ trap ∷ [])) traps) known ∙ rest rows
        ∙ ap (λ ys. rows ++ ys) (filter_twice (is_other rows) (λ other. not (is_key (key_of trap.body) other)) (is_other rows) (firsts traps) (λ x. known_with rows trap x known))
        ∙ sym (ap (λ b. rows ++ cond (not b) (trap ∷ filter (is_other rows) behind) (filter (is_other rows) behind)) known)
    by false known =
        ap (λ b. fold rows_and (cond b rows (rows ++ trap ∷ [])) traps) known ∙ rest (rows ++ trap ∷ [])
        ∙ ap (λ ys. (rows ++ trap ∷ []) ++ ys) (filter_twice (is_other (rows ++ trap ∷ [])) (λ other. not (is_key (key_of trap.body) other)) (is_other rows) (firsts traps) (other_behind rows trap))
        ∙ append_assoc rows (trap ∷ []) (filter (is_other rows) behind)
        ∙ sym (ap (λ b. rows ++ cond (not b) (trap ∷ filter (is_other rows) behind) (filter (is_other rows) behind)) known)

-- behind known rows, the first of each key that none of them has
added : (rows traps : List Row) → fold rows_and rows traps ≡ rows ++ filter (is_other rows) (firsts traps)
added rows [] = sym (append-nil rows)
added rows (trap ∷ traps) = added_one rows trap traps (λ known. added known traps)

all_others : (traps : List Row) → filter (is_other []) traps ≡ traps
all_others [] = refl
all_others (trap ∷ traps) = ap (λ ys. trap ∷ ys) (all_others traps)

entry_adds : (rows : List Row) (result : Result Row Refusal) → rows_by rows result ≡ fold rows_and rows (traps_by result)
entry_adds rows (Ok row) = refl
entry_adds rows (Err refused) = refl

adds : (rows : List Row) (entry : Entry Item) → rows_with rows entry ≡ fold rows_and rows (traps_in entry)
adds rows (Taken (Datagram from octets)) = entry_adds rows (received from octets)
adds rows (Taken (Open id count)) = refl
adds rows (Taken Close) = refl
adds rows (Outcome told) = refl

fold_rows-append : (rows xs ys : List Row) → fold rows_and rows (xs ++ ys) ≡ fold rows_and (fold rows_and rows xs) ys
fold_rows-append rows [] ys = refl
fold_rows-append rows (x ∷ xs) ys = fold_rows-append (rows_and rows x) xs ys

of_traps : (rows : List Row) (H : List (Entry Item)) → fold rows_with rows H ≡ fold rows_and rows (traps_of H)
of_traps rows [] = refl
of_traps rows (entry ∷ H) =
    ap (λ r. fold rows_with r H) (adds rows entry) ∙ of_traps (fold rows_and rows (traps_in entry)) H ∙ sym (fold_rows-append rows (traps_in entry) (traps_of H))

pub rows_are_firsts : (H : List (Entry Item)) → rows_of H ≡ firsts (traps_of H)
rows_are_firsts H = of_traps [] H ∙ added [] (traps_of H) ∙ all_others (firsts (traps_of H))
