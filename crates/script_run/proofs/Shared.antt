-- Lists, reports and room.
use Rattle.std.proofs.Common.{◌≡◌, ◌⊎◌, inl, inr, ⊎_elim, zero, suc, ◌+◌, ◌<◌, ◌≤◌, ◌^◌, length, length-append, arith, ℕ, List, [], ◌∷◌, ◌++◌, map, Option, Some, None, refl, sym, ◌∙◌, ap, subst, append_assoc, Result, Ok, Err, OnOk, IsErrOf}
use Rattle.std.proofs.lemmas.List.{append-nil, map-append}
use Rattle.board_core.specs.declared.step.Step.{Step}
use Rattle.board_core.specs.declared.step.Told.{Told}
use Rattle.board_core.specs.declared.step.Told.TheVariants.{Done}
use Rattle.board_core.specs.declared.step.Sent.{Sent}
use Rattle.board_core.specs.Board.{BoardView, tolds_of}
use Rattle.pef_journal.specs.Image.{header, blocks}
use Rattle.pef_journal.proofs.Entries.{blocks-append}
use Rattle.pef_engine.specs.declared.entry.Entry.{Entry}
use Rattle.pef_engine.specs.declared.entry.Entry.TheVariants.{Item, Outcome}
use Rattle.pef_engine.specs.declared.engine.Engine.{Engine}
use Rattle.pef_engine.specs.declared.faults.EngineFault.{EngineFault}
use Rattle.pef_engine.specs.declared.faults.EngineFault.TheVariants as engine_fault
use Rattle.pef_engine.specs.Rules.{Rules, IsOver}
use Rattle.pef_engine.specs.MachineView.{MachineView, IsOverFor, Agrees}
use Rattle.pef_engine.specs.CrashFree.{crash_free_run, crash_free_turn, crash_free_turns, entry_items, entry_tolds, IsPrefixOf}
use Rattle.pef_engine.specs.Engine.{Holds, HasRoomForEntry, HasRoomForOutcome}
use Rattle.script_run.specs.Report.{report_from}
use Rattle.script_run.specs.Room.{file_size, HadRoom, IsTooMuch}

pub entry_items-append : {I : Type 0} (K L : List (Entry I)) → entry_items (K ++ L) ≡ entry_items K ++ entry_items L
entry_items-append [] L = refl
entry_items-append (Item item ∷ K) L = ap (λ l. item ∷ l) (entry_items-append K L)
entry_items-append (Outcome t ∷ K) L = entry_items-append K L

pub entry_tolds-append : {I : Type 0} (K L : List (Entry I)) → entry_tolds (K ++ L) ≡ entry_tolds K ++ entry_tolds L
entry_tolds-append [] L = refl
entry_tolds-append (Item item ∷ K) L = entry_tolds-append K L
entry_tolds-append (Outcome t ∷ K) L = ap (λ l. t ∷ l) (entry_tolds-append K L)

pub err_is : {T E : Type 0} {x y : E} → IsErrOf {T = T} {E = E} (Err x) y → x ≡ y
err_is e = cc e

pub is_err : {T E : Type 0} {x y : E} → x ≡ y → IsErrOf {T = T} {E = E} (Err x) y
is_err e = cc e

pub full_not_disk : {T : Type 0} (fault : EngineFault) → fault ≡ engine_fault.Full → IsErrOf {T = T} (Err fault) engine_fault.DiskFault → ⊥
full_not_disk fault is disk =
    let same : fault ≡ engine_fault.DiskFault = cc disk in
    let clash : engine_fault.Full ≡ engine_fault.DiskFault = sym is ∙ same in
    cc clash

pub on_ok_map : {T E P Q : Type 0} (r : Result T E) → (P → Q) → OnOk r P → OnOk r Q
on_ok_map (Ok x) f h = f h
on_ok_map (Err e) f h = tt

module _ {I : Type 0} (rules : Rules I) (Z : List ℕ) where
  pub room_compose : (H K L : List (Entry I)) → HadRoom rules Z H K → HadRoom rules Z (H ++ K) L → HadRoom rules Z H (K ++ L)
  room_compose H [] L first second = subst (λ h. HadRoom rules Z h L) (append-nil H) second
  room_compose H (e ∷ K) L first second = (first.0, room_compose (H ++ e ∷ []) K L first.1 (subst (λ h. HadRoom rules Z h L) (sym (append_assoc H (e ∷ []) K)) second))

pub report-append : {I : Type 0} (says : List ℕ → List (Entry I) → Entry I → List ℕ) (Z : List ℕ) (H K L : List (Entry I)) → report_from says Z H (K ++ L) ≡ report_from says Z H K ++ report_from says Z (H ++ K) L
report-append says Z H [] L = ap (λ h. report_from says Z h L) (sym (append-nil H))
report-append says Z H (e ∷ K) L =
    ap (λ l. says Z H e ++ l) (report-append says Z (H ++ e ∷ []) K L ∙ ap (λ h. report_from says Z (H ++ e ∷ []) K ++ report_from says Z h L) (append_assoc H (e ∷ []) K))
    ∙ sym (append_assoc (says Z H e) (report_from says Z (H ++ e ∷ []) K) (report_from says Z (H ++ e ∷ K) L))

-- a prefix is no longer
prefix_length : {A : Type 0} (xs ys : List A) → IsPrefixOf xs ys → length xs ≤ length ys
prefix_length xs ys p = omega (arith, length-append xs p.0, ap length p.1)

module _ {I : Type 0} (rules : Rules I) (Z : List ℕ) where
  turn_length : (n : ℕ) (go_on : List (Entry I) → List I → List Told → List (Entry I)) → ((G : List (Entry I)) (items : List I) (tolds : List Told) → length (go_on G items tolds) ≤ n) → (due : Option Step) (G : List (Entry I)) (items : List I) (tolds : List Told)
      → length (crash_free_turn go_on due G items tolds) ≤ suc n
  turn_length n go_on few (Some step) G items [] = omega arith
  turn_length n go_on few (Some step) G items (told ∷ tolds) = omega (arith, few (G ++ Outcome told ∷ []) items tolds)
  turn_length n go_on few None G [] tolds = omega arith
  turn_length n go_on few None G (item ∷ items) tolds = omega (arith, few (G ++ Item item ∷ []) items tolds)

  turns_length : (n : ℕ) (G : List (Entry I)) (items : List I) (tolds : List Told) → length (crash_free_turns n rules Z G items tolds) ≤ n
  turns_length zero G items tolds = omega arith
  turns_length (suc n) G items tolds = turn_length n (crash_free_turns n rules Z) (turns_length n) (rules.pending Z G) G items tolds

  -- so few turns take so few entries
  pub few_entries : (G : List (Entry I)) (items : List I) (K : List (Entry I)) (tolds : List Told) → IsPrefixOf K (crash_free_run rules Z G items tolds) → length items + length tolds ≤ 1 → length K ≤ 1
  few_entries G items K tolds p few = omega (arith, prefix_length K (crash_free_run rules Z G items tolds) p, turns_length (length items + length tolds) G items tolds, few)

-- at most one step more was told of
pub told_once : (old new : List Sent) → (new ≡ old) ⊎ ((one : Sent) × (new ≡ old ++ one ∷ [])) → (tolds : List Told) → tolds_of new ≡ tolds_of old ++ tolds → length tolds ≤ 1
told_once old new (inl same) tolds told =
    omega (arith, ap length told, length-append (tolds_of old) tolds, ap (λ s. length (tolds_of s)) same)
told_once old new (inr one) tolds told =
    omega (arith, ap length told, length-append (tolds_of old) tolds, ap (λ s. length (tolds_of s)) one.1, ap length (map-append (λ (s : Sent). s.told) old (one.0 ∷ [])), length-append (tolds_of old) (one.0.told ∷ []))

pub told_none : (old new : List Sent) → new ≡ old → (tolds : List Told) → tolds_of new ≡ tolds_of old ++ tolds → length tolds ≤ 0
told_none old new same tolds told = omega (arith, ap length told, length-append (tolds_of old) tolds, ap (λ s. length (tolds_of s)) same)

module _ {I M : Type 0} (rules : Rules I) (view : M → MachineView I) (Z : List ℕ) (H : List (Entry I)) (now : BoardView) (engine : Engine M I) (holds : Holds rules view Z H now engine) where
  -- the length of the file with one entry more
  with_entry : (e : Entry I) → length (header rules.kind Z ++ blocks (map rules.encode (H ++ e ∷ []))) ≡ engine.journal.place + 3 + length (rules.encode e)
  with_entry e =
      let front = header rules.kind Z ++ blocks (map rules.encode H) in
      let one = blocks (rules.encode e ∷ []) in
      let split : header rules.kind Z ++ blocks (map rules.encode (H ++ e ∷ [])) ≡ front ++ one =
      ap (λ l. header rules.kind Z ++ blocks l) (map-append rules.encode H (e ∷ [])) ∙ ap (λ l. header rules.kind Z ++ l) (blocks-append (map rules.encode H) (rules.encode e ∷ []))
      ∙ sym (append_assoc (header rules.kind Z) (blocks (map rules.encode H)) one) in
      let of_one : length one ≡ length (rules.encode e) + 3 = omega (arith, ap length (append-nil (rules.encode e))) in
      ap length split ∙ length-append front one ∙ omega (arith, of_one, holds.stored.at.place)

  -- where it has room, it doesn't pass the end
  fits_in : (e : Entry I) → HasRoomForEntry rules engine e → 2 ^ 24 < file_size rules Z (H ++ e ∷ []) → ⊥
  fits_in e has = rw (with_entry e) (fewer (engine.journal.place + 3 + length (rules.encode e)) (omega (arith, has)))
    where
      fewer : (n : ℕ) → n + 1 ≤ 16777216 → 2 ^ 24 < n + 1 → ⊥
      fewer n le more = omega (arith, le, more)

  passes : (e : Entry I) → (HasRoomForEntry rules engine e → ⊥) → 2 ^ 24 < file_size rules Z (H ++ e ∷ [])
  passes e none = rw (with_entry e) (more (engine.journal.place + 3 + length (rules.encode e)) (λ fits. none (omega (arith, fits))))
    where
      more : (n : ℕ) → (n + 1 ≤ 16777216 → ⊥) → 2 ^ 24 < n + 1
      more n none = omega (arith, none)

  pub had_room : (e : Entry I) → HasRoomForEntry rules engine e → (IsOver rules Z H e → ⊥) → IsTooMuch rules Z H e → ⊥
  had_room e has not_over why = ⊎_elim (fits_in e has) not_over why

  pub item_too_much : (item : I) → Agrees rules (view engine.machine) → IsOverFor (view engine.machine) (Item item) ⊎ (HasRoomForEntry rules engine (Item item) → ⊥) → IsTooMuch rules Z H (Item item)
  item_too_much item agrees why = ⊎_elim (λ over. inr ((agrees.over Z H item holds.lawful holds.shows).0 over)) (λ none. inl (passes (Item item) none)) why

  pub outcome_too_much : ((one other : Told) → length (rules.encode (Outcome one)) ≡ length (rules.encode (Outcome other))) → (HasRoomForOutcome rules engine → ⊥) → IsTooMuch rules Z H (Outcome Done)
  outcome_too_much same none = inl (passes (Outcome Done) (λ fits. none (λ told. omega (arith, fits, same told Done))))
