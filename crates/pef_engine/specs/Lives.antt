-- Several lives of one file, each cut at any moment or returned.
use Rattle.std.specs.Prelude.{◌≡◌, ◌⊎◌, ⊤, ℕ, suc, List, [], ◌∷◌, ◌++◌, length, drop, Some}
use Rattle.board_core.specs.declared.step.Step.{Step}
use Rattle.board_core.specs.declared.step.Sent.{Sent}
use Rattle.board_core.specs.Board.{CrashState}
use Rattle.pef_engine.specs.declared.entry.Entry.{Entry}
use Rattle.pef_engine.specs.Rules.{Rules, LawfulFrom}
use Rattle.pef_engine.specs.CrashFree.{Kept, LeavesPrefix, prescribed}

-- what one life stored, and the steps that it issued
pub record Life (I : Type 0) : Type 0 where
  pub stored : List (Entry I)
  pub steps : List Step

abbrev pub AreLives : {I : Type 0} → Rules I → List ℕ → List (Entry I) → List (Life I) → Type 0
AreLives rules Z H [] = ⊤
AreLives rules Z H (life ∷ lives) = LawfulFrom rules Z H life.stored × Kept rules Z H life.stored life.steps × AreLives rules Z (H ++ life.stored) lives

abbrev pub steps_of_lives : {I : Type 0} → List (Life I) → List Step
steps_of_lives [] = []
steps_of_lives (life ∷ lives) = life.steps ++ steps_of_lives lives

abbrev pub last_history : {I : Type 0} → List (Entry I) → List (Life I) → List (Entry I)
last_history H [] = H
last_history H (life ∷ lives) = last_history (H ++ life.stored) lives

-- the list begins with this
abbrev pub BeginsWith : {A : Type 0} → A → List A → Type 0
BeginsWith x [] = ⊥
BeginsWith x (y ∷ ys) = y ≡ x

-- thinned is steps without at most n of them, each of which equals the one right behind it
abbrev pub Thins : {A : Type 0} → ℕ → List A → List A → Type 0
Thins n [] thinned = thinned ≡ []
Thins {A} n (x ∷ steps) thinned =
    ((rest : List A) × (thinned ≡ x ∷ rest) × Thins n steps rest)
    ⊎ ((m : ℕ) × (n ≡ suc m) × BeginsWith x steps × Thins m steps thinned)

-- without at most n repeats, the steps are those that the history prescribes, or these and the one that is due
pub record IsRepeating {I : Type 0} (rules : Rules I) (Z : List ℕ) (n : ℕ) (steps : List Step) (H : List (Entry I)) : Type 0 where
  pub thinned : List Step
  pub thins : Thins n steps thinned
  pub kept : (thinned ≡ prescribed rules Z H) ⊎ ((step : Step) × (rules.pending Z H ≡ Some step) × (thinned ≡ prescribed rules Z H ++ step ∷ []))

-- one call of a program on a file: what had been sent before it, the items that it was given, and what it left, cut at any moment
-- or returned
pub record Call (I : Type 0) : Type 0 where
  pub sent : List Sent
  pub items : List I
  pub left : CrashState

-- From H on, each call left a prefix of its run without a crash behind the history that the one before it left, and the last of
-- these histories is G.
abbrev pub AreCalls : {I : Type 0} → Rules I → List ℕ → List (Entry I) → List (Call I) → List (Entry I) → Type 0
AreCalls rules Z H [] G = G ≡ H
AreCalls rules Z H (call ∷ calls) G = (here : LeavesPrefix rules Z H call.sent call.items call.left) × AreCalls rules Z (H ++ here.entries) calls G

-- the steps that were issued in the calls, in order
abbrev pub steps_of_calls : {I : Type 0} → List (Call I) → List Step
steps_of_calls [] = []
steps_of_calls (call ∷ calls) = drop (length call.sent) call.left.issued ++ steps_of_calls calls
