-- What a later call leaves is a prefix of the whole run without a crash.
use Rattle.std.proofs.Common.{◌≡◌, inl, inr, ⊎_elim, ℕ, zero, suc, ◌+◌, List, [], ◌∷◌, ◌++◌, length, Option, Some, None, IsSome, refl, sym, ◌∙◌, ap, subst, arith, append_assoc, length-append}
use Rattle.std.proofs.lemmas.List.{append-nil}
use Rattle.board_core.specs.declared.step.Step.{Step}
use Rattle.board_core.specs.declared.step.Told.{Told}
use Rattle.board_core.specs.Board.{BoardView, CrashState, steps_of, tolds_of}
use Rattle.pef_engine.specs.declared.entry.Entry.{Entry}
use Rattle.pef_engine.specs.declared.entry.Entry.TheVariants.{Item, Outcome}
use Rattle.pef_engine.specs.Rules.{Rules, LawfulFrom, Stands}
use Rattle.pef_engine.specs.CrashFree.{crash_free_run, crash_free_turns, crash_free_turn, IsPrefixOf, prescribed, Kept, LeavesPrefix, entry_items, entry_tolds}
use Rattle.pef_engine.proofs.Moments.{leaves}

prefix_trans : {A : Type 0} (xs ys zs : List A) → IsPrefixOf xs ys → IsPrefixOf ys zs → IsPrefixOf xs zs
prefix_trans xs ys zs a b = (a.0 ++ b.0, sym (append_assoc xs a.0 b.0) ∙ ap (λ l. l ++ b.0) a.1 ∙ b.1)

prefix_cons : {A : Type 0} (x : A) (xs ys : List A) → IsPrefixOf xs ys → IsPrefixOf (x ∷ xs) (x ∷ ys)
prefix_cons x xs ys a = (a.0, ap (λ l. x ∷ l) a.1)

prefix_behind : {A : Type 0} (front xs ys : List A) → IsPrefixOf xs ys → IsPrefixOf (front ++ xs) (front ++ ys)
prefix_behind front xs ys a = (a.0, append_assoc front xs a.0 ∙ ap (λ l. front ++ l) a.1)

module _ {I : Type 0} (rules : Rules I) (Z : List ℕ) where
  -- one turn
  turn : (n : ℕ) (H : List (Entry I)) (items : List I) (tolds : List Told) → n ≡ suc (length items + length tolds) → (m : ℕ) → n ≡ suc m → crash_free_turns n rules Z H items tolds ≡ crash_free_turn (crash_free_turns m rules Z) (rules.pending Z H) H items tolds
  turn n H items tolds is m more = ap (λ k. crash_free_turns k rules Z H items tolds) more

  run_more_item : (H : List (Entry I)) (item : I) (items : List I) (tolds : List Told) → rules.pending Z H ≡ None → crash_free_run rules Z H (item ∷ items) tolds ≡ Item item ∷ crash_free_run rules Z (H ++ Item item ∷ []) items tolds
  run_more_item H item items tolds idle =
      let n : length (item ∷ items) + length tolds ≡ suc (length items + length tolds) = omega arith in
      ap (λ k. crash_free_turns k rules Z H (item ∷ items) tolds) n ∙ ap (λ p. crash_free_turn (crash_free_turns (length items + length tolds) rules Z) p H (item ∷ items) tolds) idle

  run_more_outcome : (H : List (Entry I)) (step : Step) (items : List I) (told : Told) (tolds : List Told) → rules.pending Z H ≡ Some step → crash_free_run rules Z H items (told ∷ tolds) ≡ Outcome told ∷ crash_free_run rules Z (H ++ Outcome told ∷ []) items tolds
  run_more_outcome H step items told tolds due =
      let n : length items + length (told ∷ tolds) ≡ suc (length items + length tolds) = omega arith in
      ap (λ k. crash_free_turns k rules Z H items (told ∷ tolds)) n ∙ ap (λ p. crash_free_turn (crash_free_turns (length items + length tolds) rules Z) p H items (told ∷ tolds)) due

  outcome_first : (H K : List (Entry I)) (items : List I) (told : Told) (tolds : List Told)
      → crash_free_run rules Z (H ++ Outcome told ∷ []) (entry_items K ++ items) (entry_tolds K ++ tolds) ≡ K ++ crash_free_run rules Z (H ++ Outcome told ∷ K) items tolds
      → (p : Option Step) → rules.pending Z H ≡ p → IsSome p → crash_free_run rules Z H (entry_items K ++ items) (told ∷ (entry_tolds K ++ tolds)) ≡ Outcome told ∷ (K ++ crash_free_run rules Z (H ++ Outcome told ∷ K) items tolds)
  outcome_first H K items told tolds on (Some step) due some = run_more_outcome H step (entry_items K ++ items) told (entry_tolds K ++ tolds) due ∙ ap (λ l. Outcome told ∷ l) on
  outcome_first H K items told tolds on None due some = absurd (cc some)

  -- the run goes on behind what was taken
  pub run_goes_on : (H K : List (Entry I)) (items : List I) (tolds : List Told) → LawfulFrom rules Z H K → crash_free_run rules Z H (entry_items K ++ items) (entry_tolds K ++ tolds) ≡ K ++ crash_free_run rules Z (H ++ K) items tolds
  run_goes_on H [] items tolds lawful = ap (λ h. crash_free_run rules Z h items tolds) (sym (append-nil H))
  run_goes_on H (Item item ∷ K) items tolds lawful =
      run_more_item H item (entry_items K ++ items) (entry_tolds K ++ tolds) lawful.0.0
      ∙ ap (λ l. Item item ∷ l) (run_goes_on (H ++ Item item ∷ []) K items tolds lawful.1 ∙ ap (λ h. K ++ crash_free_run rules Z h items tolds) (append_assoc H (Item item ∷ []) K))
  run_goes_on H (Outcome told ∷ K) items tolds lawful =
      outcome_first H K items told tolds (run_goes_on (H ++ Outcome told ∷ []) K items tolds lawful.1 ∙ ap (λ h. K ++ crash_free_run rules Z h items tolds) (append_assoc H (Outcome told ∷ []) K))
      (rules.pending Z H) refl lawful.0

  -- with more items and turns the run is longer
  turns_more : (n d : ℕ) (H : List (Entry I)) (items more : List I) (tolds : List Told) → IsPrefixOf (crash_free_turns n rules Z H items tolds) (crash_free_turns (n + d) rules Z H (items ++ more) tolds)
  turns_more zero d H items more tolds = (crash_free_turns (zero + d) rules Z H (items ++ more) tolds, refl)
  turns_more (suc n) d H items more tolds =
      let k : suc n + d ≡ suc (n + d) = omega arith in
      subst (λ k. IsPrefixOf (crash_free_turns (suc n) rules Z H items tolds) (crash_free_turns k rules Z H (items ++ more) tolds)) (sym k) (by_case (rules.pending Z H) items tolds (λ h i t. turns_more n d h i more t))
    where
      by_case : (p : Option Step) (items : List I) (tolds : List Told) → ((h : List (Entry I)) (i : List I) (t : List Told) → IsPrefixOf (crash_free_turns n rules Z h i t) (crash_free_turns (n + d) rules Z h (i ++ more) t))
          → IsPrefixOf (crash_free_turn (crash_free_turns n rules Z) p H items tolds) (crash_free_turn (crash_free_turns (n + d) rules Z) p H (items ++ more) tolds)
      by_case (Some step) items [] on = ([], refl)
      by_case (Some step) items (told ∷ tolds) on = prefix_cons (Outcome told) _ _ (on (H ++ Outcome told ∷ []) items tolds)
      by_case None [] tolds on = (crash_free_turn (crash_free_turns (n + d) rules Z) None H more tolds, refl)
      by_case None (item ∷ items) tolds on = prefix_cons (Item item) _ _ (on (H ++ Item item ∷ []) items tolds)

  pub run_more : (H : List (Entry I)) (items more : List I) (tolds : List Told) → IsPrefixOf (crash_free_run rules Z H items tolds) (crash_free_run rules Z H (items ++ more) tolds)
  run_more H items more tolds =
      let n : length items + length tolds + length more ≡ length (items ++ more) + length tolds = omega (arith, length-append items more) in
      subst (λ k. IsPrefixOf (crash_free_run rules Z H items tolds) (crash_free_turns k rules Z H (items ++ more) tolds)) n (turns_more (length items + length tolds) (length more) H items more tolds)

  -- Kept goes on over what a later call keeps
  pub kept_behind : (H K L : List (Entry I)) (T U : List Step) → prescribed rules Z (H ++ K) ≡ prescribed rules Z H ++ T → Kept rules Z (H ++ K) L U → Kept rules Z H (K ++ L) (T ++ U)
  kept_behind H K L T U is kept = record {
    stored = T ++ kept.stored;
    prescribes = ap (prescribed rules Z) (sym (append_assoc H K L)) ∙ kept.prescribes ∙ ap (λ l. l ++ kept.stored) is ∙ append_assoc (prescribed rules Z H) T kept.stored;
    issued = ⊎_elim (λ all. inl (ap (λ l. T ++ l) all))
        (λ one. inr (one.0, ap (rules.pending Z) (sym (append_assoc H K L)) ∙ one.1, ap (λ l. T ++ l) one.2 ∙ sym (append_assoc T kept.stored (one.0 ∷ [])))) kept.issued;
  }

  pub lawful_compose : (H K L : List (Entry I)) → LawfulFrom rules Z H K → LawfulFrom rules Z (H ++ K) L → LawfulFrom rules Z H (K ++ L)
  lawful_compose H [] L first second = subst (λ h. LawfulFrom rules Z h L) (append-nil H) second
  lawful_compose H (e ∷ K) L first second = (first.0, lawful_compose (H ++ e ∷ []) K L first.1 (subst (λ h. LawfulFrom rules Z h L) (sym (append_assoc H (e ∷ []) K)) second))

  -- What a crash in a later call leaves is a prefix of the whole run.
  pub leaves_behind : (H K : List (Entry I)) (start now : BoardView) (T : List Step) (items more rest : List I) (left : CrashState)
      → LawfulFrom rules Z H K → items ≡ entry_items K ++ (more ++ rest)
      → steps_of now.sent ≡ steps_of start.sent ++ T → tolds_of now.sent ≡ tolds_of start.sent ++ entry_tolds K → prescribed rules Z (H ++ K) ≡ prescribed rules Z H ++ T
      → LeavesPrefix rules Z (H ++ K) now.sent more left → LeavesPrefix rules Z H start.sent items left
  leaves_behind H K start now T items more rest left lawful split steps tolds is here =
      leaves rules Z H start items left (T ++ here.steps) (entry_tolds K ++ here.tolds) (K ++ here.entries)
      (here.issued ∙ ap (λ l. l ++ here.steps) steps ∙ append_assoc (steps_of start.sent) T here.steps)
      (here.told ∙ ap (λ l. l ++ here.tolds) tolds ∙ append_assoc (tolds_of start.sent) (entry_tolds K) here.tolds)
      (subst (λ l. IsPrefixOf (K ++ here.entries) l) (sym (ap (λ i. crash_free_run rules Z H i (entry_tolds K ++ here.tolds)) split ∙ run_goes_on H K (more ++ rest) here.tolds lawful))
      (prefix_behind K here.entries (crash_free_run rules Z (H ++ K) (more ++ rest) here.tolds) (prefix_trans here.entries _ _ here.is_prefix (run_more (H ++ K) more rest here.tolds))))
      (lawful_compose H K here.entries lawful here.lawful)
      (subst (λ h. Stands rules Z h left.image) (append_assoc H K here.entries) here.stands)
      (kept_behind H K here.entries T here.steps is here.kept)
