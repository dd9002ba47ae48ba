-- What is said of one machine.
use Rattle.std.specs.Prelude.{◌≡◌, ◌↔◌, ⊤, ℕ, List, [], ◌∷◌, ◌++◌, Option, None, IsSome}
use Rattle.board_core.specs.declared.step.Step.{Step}
use Rattle.board_core.specs.declared.step.Told.{Told}
use Rattle.pef_engine.specs.declared.entry.Entry.{Entry}
use Rattle.pef_engine.specs.declared.entry.Entry.TheVariants.{Item, Outcome}
use Rattle.pef_engine.specs.Rules.{Rules, Allowed, Lawful}

pub record MachineView (I : Type 0) : Type 1 where
  -- it is the machine of these settings and this history
  pub shows : List ℕ → List (Entry I) → Type 0
  -- the step that it would issue
  pub due : Option Step
  pub allowed : Entry I → Type 0
  -- the room for this item is made
  pub ready : I → Type 0
  -- the machine's own limit leaves no room for it
  pub over : I → Type 0
  -- at least the number of steps that may still be issued before the next item
  pub left : ℕ

abbrev pub IsReadyFor : {I : Type 0} → MachineView I → Entry I → Type 0
IsReadyFor view (Item item) = view.ready item
IsReadyFor view (Outcome told) = ⊤

-- the machine's own limit leaves no room for this entry
abbrev pub IsOverFor : {I : Type 0} → MachineView I → Entry I → Type 0
IsOverFor view (Item item) = view.over item
IsOverFor view (Outcome told) = ⊥

-- nothing but its room has changed
pub record KeepsAllButReady {I : Type 0} (old new : MachineView I) : Type 0 where
  pub shows : (Z : List ℕ) (H : List (Entry I)) → old.shows Z H → new.shows Z H
  pub due : new.due ≡ old.due
  pub allowed : (e : Entry I) → new.allowed e ↔ old.allowed e
  pub over : (item : I) → new.over item ↔ old.over item
  pub left : new.left ≡ old.left

-- the entry joins the history
abbrev pub GoesOn : {I : Type 0} → Rules I → MachineView I → MachineView I → Entry I → Type 0
GoesOn {I} rules old new e = (Z : List ℕ) (H : List (Entry I)) → Lawful rules Z H → old.shows Z H → new.shows Z (H ++ e ∷ [])

-- what a machine does is what its history means
pub record Agrees {I : Type 0} (rules : Rules I) (view : MachineView I) : Type 0 where
  pub due : (Z : List ℕ) (H : List (Entry I)) → Lawful rules Z H → view.shows Z H → view.due ≡ rules.pending Z H
  pub allowed : (Z : List ℕ) (H : List (Entry I)) (e : Entry I) → Lawful rules Z H → view.shows Z H → view.allowed e ↔ Allowed rules Z H e
  pub over : (Z : List ℕ) (H : List (Entry I)) (item : I) → Lawful rules Z H → view.shows Z H → view.over item ↔ rules.over Z H item
  pub outcome : (told : Told) → view.allowed (Outcome told) ↔ IsSome view.due
  pub item : (item : I) → view.allowed (Item item) → view.due ≡ None
