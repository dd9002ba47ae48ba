-- The run without a crash, the steps that a history prescribes, and what of both a crash leaves.
use Rattle.std.specs.Prelude.{◌≡◌, ◌⊎◌, ℕ, zero, suc, ◌+◌, List, [], ◌∷◌, ◌++◌, length, Option, Some, None}
use Rattle.board_core.specs.declared.step.Step.{Step}
use Rattle.board_core.specs.declared.step.Told.{Told}
use Rattle.board_core.specs.declared.step.Sent.{Sent}
use Rattle.board_core.specs.Board.{CrashState, steps_of, tolds_of}
use Rattle.pef_engine.specs.declared.entry.Entry.{Entry}
use Rattle.pef_engine.specs.declared.entry.Entry.TheVariants.{Item, Outcome}
use Rattle.pef_engine.specs.Rules.{Rules, LawfulFrom, Stands}

abbrev pub option_list : {A : Type 0} → Option A → List A
option_list None = []
option_list (Some x) = x ∷ []

-- what comes next in the run without a crash: where a step is due its outcome, else an item, as long as there is one
abbrev pub crash_free_turn : {I : Type 0} → (List (Entry I) → List I → List Told → List (Entry I)) → Option Step → List (Entry I) → List I → List Told → List (Entry I)
crash_free_turn go_on (Some step) H items [] = []
crash_free_turn go_on (Some step) H items (told ∷ tolds) = Outcome told ∷ go_on (H ++ Outcome told ∷ []) items tolds
crash_free_turn go_on None H [] tolds = []
crash_free_turn go_on None H (item ∷ items) tolds = Item item ∷ go_on (H ++ Item item ∷ []) items tolds

-- so many turns of the run without a crash
abbrev pub crash_free_turns : {I : Type 0} → ℕ → Rules I → List ℕ → List (Entry I) → List I → List Told → List (Entry I)
crash_free_turns zero rules Z H items tolds = []
crash_free_turns (suc turns) rules Z H items tolds = crash_free_turn (crash_free_turns turns rules Z) (rules.pending Z H) H items tolds

-- the run without a crash: each turn uses up an item or an outcome
abbrev pub crash_free_run : {I : Type 0} → Rules I → List ℕ → List (Entry I) → List I → List Told → List (Entry I)
crash_free_run rules Z H items tolds = crash_free_turns (length items + length tolds) rules Z H items tolds

-- the item of an entry
abbrev pub items_of : {I : Type 0} → Entry I → List I
items_of (Item item) = item ∷ []
items_of (Outcome told) = []

-- the items and the outcomes of a history
abbrev pub entry_items : {I : Type 0} → List (Entry I) → List I
entry_items [] = []
entry_items (Item item ∷ K) = item ∷ entry_items K
entry_items (Outcome told ∷ K) = entry_items K

abbrev pub entry_tolds : {I : Type 0} → List (Entry I) → List Told
entry_tolds [] = []
entry_tolds (Item item ∷ K) = entry_tolds K
entry_tolds (Outcome told ∷ K) = told ∷ entry_tolds K

abbrev pub IsPrefixOf : {A : Type 0} → List A → List A → Type 0
IsPrefixOf {A} xs ys = (rest : List A) × (xs ++ rest ≡ ys)

-- the steps whose outcomes stand in K, where K comes behind H
abbrev pub prescribed_from : {I : Type 0} → Rules I → List ℕ → List (Entry I) → List (Entry I) → List Step
prescribed_from rules Z H [] = []
prescribed_from rules Z H (Item item ∷ K) = prescribed_from rules Z (H ++ Item item ∷ []) K
prescribed_from rules Z H (Outcome told ∷ K) = option_list (rules.pending Z H) ++ prescribed_from rules Z (H ++ Outcome told ∷ []) K

-- the steps that a history prescribes, in order
abbrev pub prescribed : {I : Type 0} → Rules I → List ℕ → List (Entry I) → List Step
prescribed rules Z H = prescribed_from rules Z [] H

-- the steps issued while K came behind H are those prescribed, or these and the one that is due
pub record Kept {I : Type 0} (rules : Rules I) (Z : List ℕ) (H K : List (Entry I)) (T : List Step) : Type 0 where
  pub stored : List Step
  pub prescribes : prescribed rules Z (H ++ K) ≡ prescribed rules Z H ++ stored
  pub issued : (T ≡ stored) ⊎ ((step : Step) × (rules.pending Z (H ++ K) ≡ Some step) × (T ≡ stored ++ step ∷ []))

-- What a crash leaves, where so much had been sent at the start: the image stands for H with one prefix of the run without a crash,
-- which is lawful behind H, and the steps issued since are kept.
pub record LeavesPrefix {I : Type 0} (rules : Rules I) (Z : List ℕ) (H : List (Entry I)) (sent : List Sent) (items : List I) (left : CrashState) : Type 0 where
  pub steps : List Step
  pub tolds : List Told
  pub issued : left.issued ≡ steps_of sent ++ steps
  pub told : left.told ≡ tolds_of sent ++ tolds
  pub entries : List (Entry I)
  pub is_prefix : IsPrefixOf entries (crash_free_run rules Z H items tolds)
  pub lawful : LawfulFrom rules Z H entries
  pub stands : Stands rules Z (H ++ entries) left.image
  pub kept : Kept rules Z H entries steps
  pub only : (other : List (Entry I)) → IsPrefixOf other (crash_free_run rules Z H items tolds) → Stands rules Z (H ++ other) left.image → other ≡ entries
