-- What the histories of a kind of machine mean.
use Rattle.std.specs.Prelude.{◌≡◌, ◌⊎◌, ⊤, ℕ, Bool, List, [], ◌∷◌, ◌++◌, length, map, Option, Some, None, IsSome}
use Rattle.board_core.specs.declared.step.Step.{Step}
use Rattle.pef_engine.specs.declared.entry.Entry.{Entry}
use Rattle.pef_engine.specs.declared.entry.Entry.TheVariants.{Item, Outcome}
use Rattle.pef_journal.specs.Image as image
use Rattle.pef_journal.specs.declared.kind.FileKind.{FileKind}

-- a history is a list of entries; a place in it is a number of entries from the front
pub record Rules (I : Type 0) : Type 1 where
  -- the kind of its state file
  pub kind : FileKind
  -- it is a value that the code can hold, as numbers in their types' ranges
  pub is_entry : Entry I → Type 0
  -- the octets of an entry
  pub encode : Entry I → List ℕ
  -- the step that is due after a history under these settings
  pub pending : List ℕ → List (Entry I) → Option Step
  -- the machine's own rule of which items may come
  pub may_take : List ℕ → List (Entry I) → I → Type 0
  -- a limit of the machine's own leaves no room for this item behind a history
  pub over : List ℕ → List (Entry I) → I → Type 0
  -- getting ready for an item may take memory
  pub takes_memory : Bool

abbrev pub IsItem : {I : Type 0} → Entry I → Type 0
IsItem (Item item) = ⊤
IsItem (Outcome told) = ⊥

abbrev pub IsOutcome : {I : Type 0} → Entry I → Type 0
IsOutcome (Item item) = ⊥
IsOutcome (Outcome told) = ⊤

-- an outcome follows where a step is due, an item where none is and the machine's own rule holds
abbrev pub Allowed : {I : Type 0} → Rules I → List ℕ → List (Entry I) → Entry I → Type 0
Allowed rules Z H (Item item) = (rules.pending Z H ≡ None) × rules.may_take Z H item
Allowed rules Z H (Outcome told) = IsSome (rules.pending Z H)

-- the machine's own limit leaves no room for this entry behind H
abbrev pub IsOver : {I : Type 0} → Rules I → List ℕ → List (Entry I) → Entry I → Type 0
IsOver rules Z H (Item item) = rules.over Z H item
IsOver rules Z H (Outcome told) = ⊥

-- behind H the machine's own limit left room for each of these entries where it stands
abbrev pub NoneOver : {I : Type 0} → Rules I → List ℕ → List (Entry I) → List (Entry I) → Type 0
NoneOver rules Z H [] = ⊤
NoneOver rules Z H (e ∷ K) = (IsOver rules Z H e → ⊥) × NoneOver rules Z (H ++ e ∷ []) K

-- one of the entries of this history is an item for which the machine's own limit left no room
abbrev pub WasOver : {I : Type 0} → Rules I → List ℕ → List (Entry I) → Type 0
WasOver {I} rules Z H = (before : List (Entry I)) × (e : Entry I) × (after : List (Entry I)) × (H ≡ before ++ e ∷ after) × IsOver rules Z before e

-- behind H each of these entries is allowed where it stands
abbrev pub LawfulFrom : {I : Type 0} → Rules I → List ℕ → List (Entry I) → List (Entry I) → Type 0
LawfulFrom rules Z H [] = ⊤
LawfulFrom rules Z H (e ∷ K) = Allowed rules Z H e × LawfulFrom rules Z (H ++ e ∷ []) K

abbrev pub Lawful : {I : Type 0} → Rules I → List ℕ → List (Entry I) → Type 0
Lawful rules Z H = LawfulFrom rules Z [] H

-- the entry whose octets these are, and none where there is none
pub record Decodes {I : Type 0} (rules : Rules I) (octets : List ℕ) (decoded : Option (Entry I)) : Type 0 where
  pub found : (e : Entry I) → rules.is_entry e → rules.encode e ≡ octets → decoded ≡ Some e
  pub right : (e : Entry I) → decoded ≡ Some e → rules.is_entry e × (rules.encode e ≡ octets)

-- the file holds this history
abbrev pub Stands : {I : Type 0} → Rules I → List ℕ → List (Entry I) → List ℕ → Type 0
Stands rules Z H file = image.Stands rules.kind Z (map rules.encode H) file

-- the file holds a lawful history
abbrev pub StandsForSome : {I : Type 0} → Rules I → List ℕ → Type 0
StandsForSome {I} rules file = (Z : List ℕ) × (H : List (Entry I)) × Lawful rules Z H × Stands rules Z H file

-- the file is not a valid state file of this kind
abbrev pub StandsForNone : {I : Type 0} → Rules I → List ℕ → Type 0
StandsForNone {I} rules file = (Z : List ℕ) (H : List (Entry I)) → Lawful rules Z H → Stands rules Z H file → ⊥

-- At this gate the file stops holding a lawful history: no entry and next gate lie within the file behind it, or the entry is
-- none that may come behind those before it.
pub record BreaksAt {I : Type 0} (rules : Rules I) (at : ℕ) (file : List ℕ) : Type 0 where
  pub settings : List ℕ
  pub before : List (Entry I)
  pub lawful : Lawful rules settings before
  pub reaches : image.ReachesGate rules.kind settings (map rules.encode before) at file
  pub broken : image.IsCorruptAt file at
      ⊎ ((payload : List ℕ) × image.HasEntryAt file at payload × ((e : Entry I) → rules.is_entry e → rules.encode e ≡ payload → Allowed rules settings before e → ⊥))

-- The file has entries of a lawful history, and behind them one that may come and for which the machine's own limit leaves no room.
pub record HasOver {I : Type 0} (rules : Rules I) (file : List ℕ) : Type 0 where
  pub settings : List ℕ
  pub before : List (Entry I)
  pub lawful : Lawful rules settings before
  pub at : ℕ
  pub reaches : image.ReachesGate rules.kind settings (map rules.encode before) at file
  pub next : Entry I
  pub has : image.HasEntryAt file at (rules.encode next)
  pub allowed : Allowed rules settings before next
  pub over : IsOver rules settings before next
