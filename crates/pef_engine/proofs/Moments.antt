-- What a crash leaves while a step is issued and its outcome stored.
use Rattle.std.proofs.Common.{◌≡◌, inl, inr, ⊎_elim, ℕ, List, [], ◌∷◌, ◌++◌, map, Some, IsTrue, is_some, refl, sym, ◌∙◌, ap, subst, arith}
use Rattle.std.proofs.lemmas.List.{append-nil, map-append}
use Rattle.board_core.specs.declared.step.Step.{Step}
use Rattle.board_core.specs.declared.step.Told.{Told}
use Rattle.board_core.specs.declared.step.Sent.{Sent}
use Rattle.board_core.specs.Board.{BoardView, CrashState, LeftNow, LeftInFlight, IsSound, Issues, LeavesOnly, SameSteps, steps_of, tolds_of}
use Rattle.pef_engine.specs.declared.entry.Entry.{Entry}
use Rattle.pef_engine.specs.declared.entry.Entry.TheVariants.{Item, Outcome}
use Rattle.pef_journal.specs.Image as image
use Rattle.pef_journal.specs.Journal.{StandsForEither}
use Rattle.pef_journal.proofs.Moments.{leaves_compose, leaves_map}
use Rattle.pef_engine.specs.Rules.{Rules, LawfulFrom, Stands, IsItem, Allowed}
use Rattle.pef_engine.specs.CrashFree.{crash_free_run, items_of, IsPrefixOf, Kept, LeavesPrefix}
use Rattle.pef_engine.proofs.Prefixes.{one_prefix, run_outcome, run_item, kept_none, kept_flight, kept_outcome, kept_item}

module _ {I : Type 0} (rules : Rules I) (Z : List ℕ) (H : List (Entry I)) (v : BoardView) where
  -- one way to say what a crash leaves
  pub leaves : (items : List I) (left : CrashState) (T : List Step) (O : List Told) (K : List (Entry I)) → left.issued ≡ steps_of v.sent ++ T → left.told ≡ tolds_of v.sent ++ O
      → IsPrefixOf K (crash_free_run rules Z H items O) → LawfulFrom rules Z H K → Stands rules Z (H ++ K) left.image → Kept rules Z H K T → LeavesPrefix rules Z H v.sent items left
  leaves items left T O K issued told is_prefix lawful stands kept = record {
    steps = T;
    tolds = O;
    issued = issued;
    told = told;
    entries = K;
    is_prefix = is_prefix;
    lawful = lawful;
    stands = stands;
    kept = kept;
    only = λ other q t. one_prefix rules Z H K other (crash_free_run rules Z H items O) left.image is_prefix stands q t;
  }

  -- nothing was issued, and the file stands for the history
  pub leaves_start : (items : List I) (left : CrashState) → SameSteps v left → Stands rules Z H left.image → LeavesPrefix rules Z H v.sent items left
  leaves_start items left same stands =
      leaves items left [] [] [] (same.issued ∙ sym (append-nil (steps_of v.sent))) (same.told ∙ sym (append-nil (tolds_of v.sent))) (crash_free_run rules Z H items [], refl) tt
      (subst (λ h. Stands rules Z h left.image) (sym (append-nil H)) stands) (kept_none rules Z H)

  module _ (w x : BoardView) (step : Step) (told : Told) (due : rules.pending Z H ≡ Some step) (sound : IsSound v) (sound_w : IsSound w) (tells_v : IsTrue v.tells) (tells_w : IsTrue w.tells) (issues : Issues step told v w)
      (stands_now : (c : List ℕ) → v.images c → Stands rules Z H c) where
    sent_is : w.sent ≡ v.sent ++ record { step = step; told = told } ∷ []
    sent_is = issues.sent tells_w

    issued_is : (l : List Step) → l ≡ steps_of w.sent → l ≡ steps_of v.sent ++ step ∷ []
    issued_is l is = is ∙ ap steps_of sent_is ∙ map-append (λ (s : Sent). s.step) v.sent (record { step = step; told = told } ∷ [])

    told_is : (l : List Told) → l ≡ tolds_of w.sent → l ≡ tolds_of v.sent ++ told ∷ []
    told_is l is = is ∙ ap tolds_of sent_is ∙ map-append (λ (s : Sent). s.told) v.sent (record { step = step; told = told } ∷ [])

    -- before the step
    before_issue : (left : CrashState) → LeftNow v left → LeavesPrefix rules Z H v.sent [] left
    before_issue left now = leaves_start [] left (record { issued = now.issued; told = now.told }) (stands_now left.image now.image)

    -- in the middle of its call
    in_flight : (left : CrashState) → LeftInFlight v step left → LeavesPrefix rules Z H v.sent [] left
    in_flight left now =
        leaves [] left (step ∷ []) [] [] now.issued (now.told ∙ sym (append-nil (tolds_of v.sent))) (crash_free_run rules Z H [] [], refl) tt
        (subst (λ h. Stands rules Z h left.image) (sym (append-nil H)) (stands_now left.image now.image)) (kept_flight rules Z H step due)

    -- it was told, and its outcome isn't stored
    not_stored : (left : CrashState) → left.issued ≡ steps_of w.sent → left.told ≡ tolds_of w.sent → Stands rules Z H left.image → LeavesPrefix rules Z H v.sent [] left
    not_stored left issued tolds stands =
        leaves [] left (step ∷ []) (told ∷ []) [] (issued_is left.issued issued) (told_is left.told tolds) (crash_free_run rules Z H [] (told ∷ []), refl) tt
        (subst (λ h. Stands rules Z h left.image) (sym (append-nil H)) stands) (kept_flight rules Z H step due)

    stored : (left : CrashState) → left.issued ≡ steps_of w.sent → left.told ≡ tolds_of w.sent → Stands rules Z (H ++ Outcome told ∷ []) left.image → LeavesPrefix rules Z H v.sent [] left
    stored left issued tolds stands =
        leaves [] left (step ∷ []) (told ∷ []) (Outcome told ∷ []) (issued_is left.issued issued) (told_is left.told tolds)
        ([], append-nil (Outcome told ∷ []) ∙ sym (run_outcome rules Z H step told due)) (ap is_some due, tt) stands (kept_outcome rules Z H step told due)

    pub after_issue : (left : CrashState) → LeftNow w left → LeavesPrefix rules Z H v.sent [] left
    after_issue left now = not_stored left now.issued now.told (stands_now left.image ((issues.images tells_w left.image).0 now.image))

    -- a crash in the call that issues the step
    issue_moments : LeavesOnly v w (LeavesPrefix rules Z H v.sent [])
    issue_moments = record {
      later = issues.later tells_w;
      each = λ left since. ⊎_elim
          (λ was. before_issue left (sound.only_now tells_v left was))
          (λ so. ⊎_elim (in_flight left) (after_issue left) so.1)
          (issues.nothing_else tells_w v.moment left (omega arith) since);
      before = λ t left le since. ⊎_elim inl (λ so. inr so.0) (issues.nothing_else tells_w t left le since);
      keeps = issues.keeps tells_w;
      earlier = sound_w.earlier tells_w;
    }

    in_append : (left : CrashState) → SameSteps w left × StandsForEither rules.kind Z (map rules.encode H) (rules.encode (Outcome told)) left.image → LeavesPrefix rules Z H v.sent [] left
    in_append left (same, inl without) = not_stored left same.issued same.told without
    in_append left (same, inr with_it) =
        stored left same.issued same.told (subst (λ (l : List (List ℕ)). image.Stands rules.kind Z l left.image) (sym (map-append rules.encode H (Outcome told ∷ []))) with_it)

    pub settle_moments : LeavesOnly w x (λ left. SameSteps w left × StandsForEither rules.kind Z (map rules.encode H) (rules.encode (Outcome told)) left.image) → LeavesOnly v x (LeavesPrefix rules Z H v.sent [])
    settle_moments append = leaves_compose v w x (LeavesPrefix rules Z H v.sent []) _ issue_moments append in_append

  -- an item is stored or it isn't
  pub take_moments : (x : BoardView) (item : I) → Allowed rules Z H (Item item)
      → LeavesOnly v x (λ left. SameSteps v left × StandsForEither rules.kind Z (map rules.encode H) (rules.encode (Item item)) left.image)
      → LeavesOnly v x (LeavesPrefix rules Z H v.sent (item ∷ []))
  take_moments x item allowed append = leaves_map v x _ (LeavesPrefix rules Z H v.sent (item ∷ [])) one append
    where
      one : (left : CrashState) → SameSteps v left × StandsForEither rules.kind Z (map rules.encode H) (rules.encode (Item item)) left.image → LeavesPrefix rules Z H v.sent (item ∷ []) left
      one left (same, inl without) = leaves_start (item ∷ []) left same without
      one left (same, inr with_it) =
          leaves (item ∷ []) left [] [] (Item item ∷ []) (same.issued ∙ sym (append-nil (steps_of v.sent))) (same.told ∙ sym (append-nil (tolds_of v.sent)))
          ([], append-nil (Item item ∷ []) ∙ sym (run_item rules Z H item allowed.0)) (allowed, tt)
          (subst (λ (l : List (List ℕ)). image.Stands rules.kind Z l left.image) (sym (map-append rules.encode H (Item item ∷ []))) with_it) (kept_item rules Z H item)

  pub take_any : (x : BoardView) (e : Entry I) → IsItem e → Allowed rules Z H e
      → LeavesOnly v x (λ left. SameSteps v left × StandsForEither rules.kind Z (map rules.encode H) (rules.encode e) left.image)
      → LeavesOnly v x (LeavesPrefix rules Z H v.sent (items_of e))
  take_any x (Item item) is allowed append = take_moments x item allowed append
  take_any x (Outcome told) is allowed append = absurd is
