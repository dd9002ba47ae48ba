-- Prefixes of the run without a crash, and the steps that they prescribe.
use Rattle.std.proofs.Common.{◌≡◌, inl, inr, ℕ, List, [], ◌∷◌, ◌++◌, length, take, map, Some, None, refl, sym, ◌∙◌, ap, arith, length-append, append_assoc}
use Rattle.std.proofs.lemmas.List.{take_at, append-nil, length-map}
use Rattle.board_core.specs.declared.step.Step.{Step}
use Rattle.board_core.specs.declared.step.Told.{Told}
use Rattle.pef_engine.specs.declared.entry.Entry.{Entry}
use Rattle.pef_engine.specs.declared.entry.Entry.TheVariants.{Item, Outcome}
use Rattle.pef_engine.specs.Rules.{Rules, Stands}
use Rattle.pef_engine.specs.CrashFree.{crash_free_run, crash_free_turns, crash_free_turn, IsPrefixOf, prescribed, prescribed_from, option_list, Kept}
use Rattle.pef_journal.proofs.Unique.{Stands_unique}

pub prefix_unique : {A : Type 0} (xs ys zs : List A) → IsPrefixOf xs zs → IsPrefixOf ys zs → length xs ≡ length ys → xs ≡ ys
prefix_unique xs ys zs a b same =
    sym (take_at xs a.0 (length xs) refl) ∙ ap (λ l. take (length xs) l) (a.1 ∙ sym b.1) ∙ take_at ys b.0 (length xs) (sym same)

module _ {I : Type 0} (rules : Rules I) (Z : List ℕ) where
  -- of the prefixes of one list an image stands for one
  pub one_prefix : (H K other whole : List (Entry I)) (file : List ℕ) → IsPrefixOf K whole → Stands rules Z (H ++ K) file → IsPrefixOf other whole → Stands rules Z (H ++ other) file → other ≡ K
  one_prefix H K other whole file p s q t =
      let same = Stands_unique rules.kind Z _ _ file t s in
      let sizes : length (map rules.encode (H ++ other)) ≡ length (map rules.encode (H ++ K)) = ap length same in
      prefix_unique other K whole q p (omega (arith, sizes, length-map (H ++ other) rules.encode, length-map (H ++ K) rules.encode, length-append H other, length-append H K))

  pub prescribed_from-append : (G H K : List (Entry I)) → prescribed_from rules Z G (H ++ K) ≡ prescribed_from rules Z G H ++ prescribed_from rules Z (G ++ H) K
  prescribed_from-append G [] K = ap (λ g. prescribed_from rules Z g K) (sym (append-nil G))
  prescribed_from-append G (Item item ∷ H) K =
      prescribed_from-append (G ++ Item item ∷ []) H K ∙ ap (λ g. prescribed_from rules Z (G ++ Item item ∷ []) H ++ prescribed_from rules Z g K) (append_assoc G (Item item ∷ []) H)
  prescribed_from-append G (Outcome told ∷ H) K =
      let step = option_list (rules.pending Z G) in
      let on = G ++ Outcome told ∷ [] in
      ap (λ l. step ++ l) (prescribed_from-append on H K)
      ∙ ap (λ g. step ++ (prescribed_from rules Z on H ++ prescribed_from rules Z g K)) (append_assoc G (Outcome told ∷ []) H)
      ∙ sym (append_assoc step (prescribed_from rules Z on H) (prescribed_from rules Z (G ++ Outcome told ∷ H) K))

  pub prescribed-append : (H K : List (Entry I)) → prescribed rules Z (H ++ K) ≡ prescribed rules Z H ++ prescribed_from rules Z H K
  prescribed-append H K = prescribed_from-append [] H K

  -- behind a history at which a step is due comes its outcome
  pub run_outcome : (H : List (Entry I)) (step : Step) (told : Told) → rules.pending Z H ≡ Some step → crash_free_run rules Z H [] (told ∷ []) ≡ Outcome told ∷ []
  run_outcome H step told due = ap (λ p. crash_free_turn (crash_free_turns 0 rules Z) p H [] (told ∷ [])) due

  pub kept_none : (H : List (Entry I)) → Kept rules Z H [] []
  kept_none H = record { stored = []; prescribes = ap (prescribed rules Z) (append-nil H) ∙ sym (append-nil (prescribed rules Z H)); issued = inl refl }

  pub kept_flight : (H : List (Entry I)) (step : Step) → rules.pending Z H ≡ Some step → Kept rules Z H [] (step ∷ [])
  kept_flight H step due = record {
    stored = [];
    prescribes = ap (prescribed rules Z) (append-nil H) ∙ sym (append-nil (prescribed rules Z H));
    issued = inr (step, ap (rules.pending Z) (append-nil H) ∙ due, refl);
  }

  pub kept_outcome : (H : List (Entry I)) (step : Step) (told : Told) → rules.pending Z H ≡ Some step → Kept rules Z H (Outcome told ∷ []) (step ∷ [])
  kept_outcome H step told due = record {
    stored = step ∷ [];
    prescribes = prescribed-append H (Outcome told ∷ []) ∙ ap (λ p. prescribed rules Z H ++ (option_list p ++ [])) due;
    issued = inl refl;
  }

  -- behind a history at which none is due comes the item
  pub run_item : (H : List (Entry I)) (item : I) → rules.pending Z H ≡ None → crash_free_run rules Z H (item ∷ []) [] ≡ Item item ∷ []
  run_item H item idle = ap (λ p. crash_free_turn (crash_free_turns 0 rules Z) p H (item ∷ []) []) idle

  pub kept_item : (H : List (Entry I)) (item : I) → Kept rules Z H (Item item ∷ []) []
  kept_item H item = record {
    stored = [];
    prescribes = prescribed-append H (Item item ∷ []);
    issued = inl refl;
  }
