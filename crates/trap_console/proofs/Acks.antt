-- Each step that a history prescribes or asks for is the acknowledgement of a row of it.
use Rattle.std.specs.Prelude.{IsSome, IfSome}
use Rattle.std.proofs.Common.{◌≡◌, ℕ, zero, suc, Bool, true, false, cond, List, [], ◌∷◌, ◌++◌, Option, Some, None, Result, Ok, Err, refl, sym, ap, subst, inl, inr}
use Rattle.std.specs.List.{fold, slice_get}
use Rattle.std.specs.Option.{is_some}
use Rattle.std.proofs.lemmas.List.Sums.{fold_push}
use Rattle.board_core.specs.declared.step.Step.{Step}
use Rattle.snmp_trap.specs.declared.refusal.Refusal.{Refusal}
use Rattle.pef_engine.specs.declared.entry.Entry.{Entry}
use Rattle.pef_engine.specs.declared.entry.Entry.TheVariants.{Item as Taken, Outcome}
use Rattle.pef_engine.specs.CrashFree.{option_list, prescribed_from, Kept}
use Rattle.trap_console.specs.declared.item.Item.{Item}
use Rattle.trap_console.specs.declared.item.Item.TheVariants.{Datagram, Open, Close}
use Rattle.trap_console.specs.declared.key.Key.{Key}
use Rattle.trap_console.specs.declared.row.Row.{Row}
use Rattle.trap_console.specs.Received.{received, due_by}
use Rattle.trap_console.specs.Rows.{key_of, is_key, place_in, rows_and, rows_by}
use Rattle.trap_console.specs.Heard.{rows_with, rows_of}
use Rattle.trap_console.specs.Histories.{ack_port, due_behind, pending, console_rules}
use Rattle.trap_console.specs.Acks.{AcksARow, AckRows}
use Rattle.trap_console.proofs.Keys.{is_key_at}
use Rattle.trap_console.proofs.Places.{passes_at, some_passes}

-- ---- rows stay

got_in_front : {X : Type 0} (xs : List X) (y : X) (i : ℕ) (x : X) → slice_get xs i ≡ Some x → slice_get (xs ++ y ∷ []) i ≡ Some x
got_in_front [] y i x e = absurd (cc e)
got_in_front (z ∷ xs) y zero x e = e
got_in_front (z ∷ xs) y (suc i) x e = got_in_front xs y i x e

pub got_at_end : {X : Type 0} (xs : List X) (y : X) → (i : ℕ) × (slice_get (xs ++ y ∷ []) i ≡ Some y)
got_at_end [] y = (0, refl)
got_at_end (z ∷ xs) y = let rest = got_at_end xs y in (suc rest.0, rest.1)

pub is_there : {A : Type 0} (o : Option A) → IsSome o → (x : A) × (o ≡ Some x)
is_there None some = absurd (cc some)
is_there (Some x) some = (x, refl)

pub some_there : {A : Type 0} (o : Option A) (x : A) → o ≡ Some x → IsSome o
some_there o x e = ap is_some e

pub stays_behind : (rows : List Row) (row : Row) (key : Key) → IsSome (place_in rows key) → IsSome (place_in (rows ++ row ∷ []) key)
stays_behind rows row key some =
    let place = is_there (place_in rows key) some in
    let at = passes_at (is_key key) rows place.0 place.1 in
    let found = some_passes (is_key key) (rows ++ row ∷ []) place.0 at.0 (got_in_front rows row place.0 at.0 at.1) at.2 in
    some_there (place_in (rows ++ row ∷ []) key) found.0 found.1

stays_with_row : (rows : List Row) (row : Row) (key : Key) → IsSome (place_in rows key) → IsSome (place_in (rows_and rows row) key)
stays_with_row rows row key some =
    elim (is_some (place_in rows (key_of row.body))) as (λ b. IsSome (place_in (cond b rows (rows ++ row ∷ [])) key))
    [ true ↦ some | false ↦ stays_behind rows row key some ]

stays_by : (rows : List Row) (result : Result Row Refusal) (key : Key) → IsSome (place_in rows key) → IsSome (place_in (rows_by rows result) key)
stays_by rows (Ok row) key some = stays_with_row rows row key some
stays_by rows (Err refused) key some = some

stays_with : (rows : List Row) (entry : Entry Item) (key : Key) → IsSome (place_in rows key) → IsSome (place_in (rows_with rows entry) key)
stays_with rows (Taken (Datagram from octets)) key some = stays_by rows (received from octets) key some
stays_with rows (Taken (Open id count)) key some = some
stays_with rows (Taken Close) key some = some
stays_with rows (Outcome told) key some = some

stays_from : (rows : List Row) (K : List (Entry Item)) (key : Key) → IsSome (place_in rows key) → IsSome (place_in (fold rows_with rows K) key)
stays_from rows [] key some = some
stays_from rows (entry ∷ K) key some = stays_from (rows_with rows entry) K key (stays_with rows entry key some)

-- ---- a trap has a row behind it

has_row : (rows : List Row) (row : Row) → IsSome (place_in (rows_and rows row) (key_of row.body))
has_row rows row = by (is_some (place_in rows (key_of row.body))) refl
  where
    by : (b : Bool) → is_some (place_in rows (key_of row.body)) ≡ b → IsSome (place_in (cond b rows (rows ++ row ∷ [])) (key_of row.body))
    by true is = is
    by false is =
        let last = got_at_end rows row in
        let found = some_passes (is_key (key_of row.body)) (rows ++ row ∷ []) last.0 row last.1 (is_key_at (key_of row.body) row refl) in
        some_there (place_in (rows ++ row ∷ []) (key_of row.body)) found.0 found.1

module _ (port : ℕ) where
  due_has_row : (rows : List Row) (result : Result Row Refusal) → IfSome (due_by port result) (AcksARow port (rows_by rows result))
  due_has_row rows (Ok row) = record { trap = row; is_ack = refl; has_row = has_row rows row }
  due_has_row rows (Err refused) = tt

  due_behind_has_row : (rows : List Row) (entry : Entry Item) → IfSome (due_behind port entry) (AcksARow port (rows_with rows entry))
  due_behind_has_row rows (Taken (Datagram from octets)) = due_has_row rows (received from octets)
  due_behind_has_row rows (Taken (Open id count)) = tt
  due_behind_has_row rows (Taken Close) = tt
  due_behind_has_row rows (Outcome told) = tt

  due_from : (rows : List Row) (due : Option Step) (H : List (Entry Item)) → IfSome due (AcksARow port rows)
      → IfSome (fold (λ d entry. due_behind port entry) due H) (AcksARow port (fold rows_with rows H))
  due_from rows due [] acks = acks
  due_from rows due (entry ∷ H) acks = due_from (rows_with rows entry) (due_behind port entry) H (due_behind_has_row rows entry)

  stays_acked : (rows : List Row) (K : List (Entry Item)) (step : Step) → AcksARow port rows step → AcksARow port (fold rows_with rows K) step
  stays_acked rows K step acks = record { trap = acks.trap; is_ack = acks.is_ack; has_row = stays_from rows K (key_of acks.trap.body) acks.has_row }

  one_acked : (rows : List Row) (K : List (Entry Item)) (due : Option Step) → IfSome due (AcksARow port rows) → AckRows port (fold rows_with rows K) (option_list due)
  one_acked rows K None acks = tt
  one_acked rows K (Some step) acks = (stays_acked rows K step acks, tt)

  acked-append : (rows : List Row) (xs ys : List Step) → AckRows port rows xs → AckRows port rows ys → AckRows port rows (xs ++ ys)
  acked-append rows [] ys front back = back
  acked-append rows (x ∷ xs) ys front back = (front.0, acked-append rows xs ys front.1 back)

  acked-behind : (rows : List Row) (xs ys : List Step) → AckRows port rows (xs ++ ys) → AckRows port rows ys
  acked-behind rows [] ys all = all
  acked-behind rows (x ∷ xs) ys all = acked-behind rows xs ys all.1

  acked_due : (rows : List Row) (due : Option Step) (step : Step) → due ≡ Some step → IfSome due (AcksARow port rows) → AckRows port rows (step ∷ [])
  acked_due rows due step is acks = (subst (λ d. IfSome d (AcksARow port rows)) is acks, tt)

fold-append : (rows : List Row) (H K : List (Entry Item)) → fold rows_with rows (H ++ K) ≡ fold rows_with (fold rows_with rows H) K
fold-append rows [] K = refl
fold-append rows (entry ∷ H) K = fold-append (rows_with rows entry) H K

module _ (Z : List ℕ) where
  pending_acks : (H : List (Entry Item)) → IfSome (pending Z H) (AcksARow (ack_port Z) (rows_of H))
  pending_acks H = due_from (ack_port Z) [] None H tt

  prescribed_acks : (H K : List (Entry Item)) → AckRows (ack_port Z) (fold rows_with (rows_of H) K) (prescribed_from console_rules Z H K)
  prescribed_acks H [] = tt
  prescribed_acks H (Taken item ∷ K) =
      subst (λ rows. AckRows (ack_port Z) (fold rows_with rows K) (prescribed_from console_rules Z (H ++ Taken item ∷ []) K)) (fold_push rows_with [] H (Taken item))
      (prescribed_acks (H ++ Taken item ∷ []) K)
  prescribed_acks H (Outcome told ∷ K) =
      acked-append (ack_port Z) (fold rows_with (rows_of H) (Outcome told ∷ K)) (option_list (pending Z H)) (prescribed_from console_rules Z (H ++ Outcome told ∷ []) K)
      (one_acked (ack_port Z) (rows_of H) (Outcome told ∷ K) (pending Z H) (pending_acks H))
      (subst (λ rows. AckRows (ack_port Z) (fold rows_with rows K) (prescribed_from console_rules Z (H ++ Outcome told ∷ []) K)) (fold_push rows_with [] H (Outcome told))
      (prescribed_acks (H ++ Outcome told ∷ []) K))

  pub acks_are_rows : (H K : List (Entry Item)) (steps : List Step) → Kept console_rules Z H K steps → AckRows (ack_port Z) (rows_of (H ++ K)) steps
  acks_are_rows H K steps kept = elim kept.issued [
    | inl all ↦ subst (AckRows (ack_port Z) (rows_of (H ++ K))) (sym all) stored
    | inr more ↦
        subst (AckRows (ack_port Z) (rows_of (H ++ K))) (sym more.2)
        (acked-append (ack_port Z) (rows_of (H ++ K)) kept.stored (more.0 ∷ []) stored
        (acked_due (ack_port Z) (rows_of (H ++ K)) (pending Z (H ++ K)) more.0 more.1 (pending_acks (H ++ K))))
  ]
    where
      stored : AckRows (ack_port Z) (rows_of (H ++ K)) kept.stored
      stored = acked-behind (ack_port Z) (rows_of (H ++ K)) (prescribed_from console_rules Z [] H) kept.stored
          (subst (AckRows (ack_port Z) (rows_of (H ++ K))) kept.prescribes (prescribed_acks [] (H ++ K)))
