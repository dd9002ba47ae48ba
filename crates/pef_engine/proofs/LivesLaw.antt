-- Over any number of lives each one adds at most one repeat.
use Rattle.std.proofs.Common.{◌≡◌, ◌⊎◌, inl, inr, ⊎_elim, ℕ, suc, List, [], ◌∷◌, ◌++◌, length, Some, None, refl, sym, ◌∙◌, ap, subst, append_assoc}
use Rattle.std.proofs.lemmas.List.{append-nil, append_cancel_left}
use Rattle.board_core.specs.declared.step.Step.{Step}
use Rattle.pef_engine.specs.declared.entry.Entry.{Entry}
use Rattle.pef_engine.specs.declared.entry.Entry.TheVariants.{Item, Outcome}
use Rattle.pef_engine.specs.Rules.{Rules, LawfulFrom}
use Rattle.pef_engine.specs.CrashFree.{Kept, prescribed, prescribed_from, option_list}
use Rattle.pef_engine.specs.Lives.{Life, AreLives, steps_of_lives, last_history, Thins, BeginsWith, IsRepeating}
use Rattle.pef_engine.proofs.Prefixes.{prescribed-append}

pub Thins_more : {A : Type 0} (n : ℕ) (xs ys : List A) → Thins n xs ys → Thins (suc n) xs ys
Thins_more n [] ys t = t
Thins_more n (x ∷ xs) ys (inl keep) = inl (keep.0, keep.1, Thins_more n xs keep.0 keep.2)
Thins_more n (x ∷ xs) ys (inr out) = inr (n, refl, out.2, subst (λ k. Thins k xs ys) (sym out.1) (Thins_more out.0 xs ys out.3))

pub Thins_behind : {A : Type 0} (n : ℕ) (front xs ys : List A) → Thins n xs ys → Thins n (front ++ xs) (front ++ ys)
Thins_behind n [] xs ys t = t
Thins_behind n (x ∷ front) xs ys t = inl (front ++ ys, refl, Thins_behind n front xs ys t)

module _ {I : Type 0} (rules : Rules I) (Z : List ℕ) where
  -- the steps without repeats lead from what H prescribes to what G prescribes, or to this and the one that is due
  record Leads (n : ℕ) (T : List Step) (H G : List (Entry I)) : Type 0 where
    thinned : List Step
    thins : Thins n T thinned
    kept : (prescribed rules Z G ≡ prescribed rules Z H ++ thinned) ⊎ ((step : Step) × (rules.pending Z G ≡ Some step) × (prescribed rules Z G ++ step ∷ [] ≡ prescribed rules Z H ++ thinned))

  -- where a step is due, its outcome comes first
  begins : (H K : List (Entry I)) (step : Step) → rules.pending Z H ≡ Some step → LawfulFrom rules Z H K → (K ≡ []) ⊎ ((more : List Step) × (prescribed_from rules Z H K ≡ step ∷ more))
  begins H [] step due lawful = inl refl
  begins H (Item item ∷ K) step due lawful = absurd (let clash : Some step ≡ None = sym due ∙ lawful.0.0 in cc clash)
  begins H (Outcome told ∷ K) step due lawful = inr (prescribed_from rules Z (H ++ Outcome told ∷ []) K, ap (λ p. option_list p ++ prescribed_from rules Z (H ++ Outcome told ∷ []) K) due)

  more_turns : (n : ℕ) (T : List Step) (H G : List (Entry I)) → Leads n T H G → Leads (suc n) T H G
  more_turns n T H G l = record { thinned = l.thinned; thins = Thins_more n T l.thinned l.thins; kept = l.kept }

  -- what one life stored goes in front
  behind : (n : ℕ) (T stored : List Step) (H K G : List (Entry I)) → prescribed rules Z (H ++ K) ≡ prescribed rules Z H ++ stored → Leads n T (H ++ K) G → Leads n (stored ++ T) H G
  behind n T stored H K G is l = record {
    thinned = stored ++ l.thinned;
    thins = Thins_behind n stored T l.thinned l.thins;
    kept = ⊎_elim
        (λ all. inl (all ∙ ap (λ p. p ++ l.thinned) is ∙ append_assoc (prescribed rules Z H) stored l.thinned))
        (λ one. inr (one.0, one.1, one.2 ∙ ap (λ p. p ++ l.thinned) is ∙ append_assoc (prescribed rules Z H) stored l.thinned)) l.kept;
  }

  -- from a history at which nothing is in flight, and from one whose due step was issued
  abbrev FromHere : List (Life I) → Type 0
  FromHere lives = (H : List (Entry I)) → AreLives rules Z H lives
      → Leads (length lives) (steps_of_lives lives) H (last_history H lives)
      × ((step : Step) → rules.pending Z H ≡ Some step → Leads (length lives) (step ∷ steps_of_lives lives) H (last_history H lives))

  -- a life's steps, and those of the lives after it
  one_life : (life : Life I) (lives : List (Life I)) (H : List (Entry I)) → Kept rules Z H life.stored life.steps → AreLives rules Z (H ++ life.stored) lives → FromHere lives
      → Leads (length lives) (life.steps ++ steps_of_lives lives) H (last_history (H ++ life.stored) lives)
  one_life life lives H kept are rest =
      let n = length lives in
      let G = last_history (H ++ life.stored) lives in
      let T = steps_of_lives lives in
      let next = rest (H ++ life.stored) are in
      ⊎_elim
      (λ all. subst (λ s. Leads n (s ++ T) H G) (sym all) (behind n T kept.stored H life.stored G kept.prescribes next.0))
      (λ one. subst (λ s. Leads n (s ++ T) H G) (sym one.2) (subst (λ s. Leads n s H G) (sym (append_assoc kept.stored (one.0 ∷ []) T)) (behind n (one.0 ∷ T) kept.stored H life.stored G kept.prescribes (next.1 one.0 one.1)))) kept.issued

  -- the steps of a life that begins where a step is due: none, and then it stored nothing, or that step first
  first_step : (H : List (Entry I)) (life : Life I) (step : Step) → rules.pending Z H ≡ Some step → LawfulFrom rules Z H life.stored → Kept rules Z H life.stored life.steps
      → ((life.stored ≡ []) × (life.steps ≡ [])) ⊎ ((more : List Step) × (life.steps ≡ step ∷ more))
  first_step H life step due lawful kept =
      let stored_is : kept.stored ≡ prescribed_from rules Z H life.stored = append_cancel_left (prescribed rules Z H) _ _ (sym kept.prescribes ∙ prescribed-append rules Z H life.stored) in
      ⊎_elim
      (λ none.
      let no_steps : kept.stored ≡ [] = stored_is ∙ ap (prescribed_from rules Z H) none in
      ⊎_elim (λ all. inl (none, all ∙ no_steps))
      (λ one.
      let same : Some one.0 ≡ Some step = sym one.1 ∙ ap (λ k. rules.pending Z (H ++ k)) none ∙ ap (rules.pending Z) (append-nil H) ∙ due in
      let is : one.0 ≡ step = cc same in
      inr ([], one.2 ∙ (λ i. no_steps i ++ is i ∷ []))) kept.issued)
      (λ some. ⊎_elim (λ all. inr (some.0, all ∙ stored_is ∙ some.1)) (λ one. inr (some.0 ++ one.0 ∷ [], one.2 ∙ ap (λ l. l ++ one.0 ∷ []) (stored_is ∙ some.1))) kept.issued)
      (begins H life.stored step due lawful)

  from_here : (lives : List (Life I)) → FromHere lives
  from_here [] H are = (
    record { thinned = []; thins = refl; kept = inl (sym (append-nil (prescribed rules Z H))) },
    λ step due. record { thinned = step ∷ []; thins = inl ([], refl, refl); kept = inr (step, due, refl) },
  )
  from_here (life ∷ lives) H are =
      let n = length lives in
      let T = steps_of_lives lives in
      let G = last_history (H ++ life.stored) lives in
      let rest = from_here lives in
      let here = one_life life lives H are.1 are.2 rest in (
        more_turns n (life.steps ++ T) H G here,
        λ step due. ⊎_elim
            (λ none.
            let same : H ++ life.stored ≡ H = ap (λ k. H ++ k) none.0 ∙ append-nil H in
            let next : Leads n (step ∷ T) (H ++ life.stored) G = (rest (H ++ life.stored) are.2).1 step (ap (rules.pending Z) same ∙ due) in
            more_turns n (step ∷ (life.steps ++ T)) H G (subst (λ s. Leads n (step ∷ (s ++ T)) H G) (sym none.1) (subst (λ h. Leads n (step ∷ T) h G) same next)))
            (λ some. record {
              thinned = here.thinned;
              thins = inr (n, refl, subst (λ s. BeginsWith step (s ++ T)) (sym some.1) refl, here.thins);
              kept = here.kept;
            })
            (first_step H life step due are.0 are.1),
      )

  pub lives_repeat : (lives : List (Life I)) → AreLives rules Z [] lives → IsRepeating rules Z (length lives) (steps_of_lives lives) (last_history [] lives)
  lives_repeat lives are =
      let l = (from_here lives [] are).0 in
      record { thinned = l.thinned; thins = l.thins; kept = ⊎_elim (λ all. inl (sym all)) (λ one. inr (one.0, one.1, sym one.2)) l.kept }
