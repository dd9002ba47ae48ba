-- What an engine holds, and what its calls leave.
use Rattle.std.specs.Prelude.{◌≡◌, ◌⊎◌, ⊤, ℕ, ◌+◌, ◌≤◌, List, [], ◌∷◌, ◌++◌, length, map, Option, Some, None, IsTrue, Result, Ok, Err, IfOk, IfErr, OnOk, IsErr, IsErrOf}
use Rattle.board_core.specs.declared.step.Step.{Step}
use Rattle.board_core.specs.declared.step.Told.{Told}
use Rattle.board_core.specs.Causes.{Rose}
use Rattle.board_core.specs.Board.{BoardView, LeavesOnly, SameSteps, SyncsFirst, NeverSynced, IsFileRun, HasRoomFor}
use Rattle.pef_journal.specs.Image.{IsForKind}
use Rattle.pef_journal.specs.Journal.{IsAtEnd, HasRead, HasRoom, HasEnded, LeavesAsRead, StandsForEither}
use Rattle.pef_journal.specs.declared.journal.Journal.{Journal}
use Rattle.pef_engine.specs.declared.entry.Entry.{Entry}
use Rattle.pef_engine.specs.declared.entry.Entry.TheVariants.{Outcome}
use Rattle.pef_engine.specs.declared.engine.Engine.{Engine}
use Rattle.pef_engine.specs.declared.faults.EngineFault.{EngineFault}
use Rattle.pef_engine.specs.declared.faults.EngineFault.TheVariants.{NotFormatted, Corrupt, DiskFault, Full, Memory}
use Rattle.pef_engine.specs.Rules.{Rules, Allowed, Lawful, Stands, StandsForSome, Decodes, BreaksAt, IsOver, WasOver, NoneOver, HasOver}
use Rattle.pef_engine.specs.MachineView.{MachineView}
use Rattle.pef_engine.specs.CrashFree.{LeavesPrefix, items_of}

abbrev pub IsLive : {M I : Type 0} → Engine M I → Type 0
IsLive engine = IsTrue engine.live × HasEnded engine.journal

-- the next gate lies within the file, which is asked only where the board tells it
abbrev pub HasPlace : {M I : Type 0} → BoardView → Engine M I → Type 0
HasPlace board engine = HasRoomFor board (engine.journal.place + 1)

-- the machine and the file stand for this lawful history, and all of it is on the disk
pub record Holds {I M : Type 0} (rules : Rules I) (view : M → MachineView I) (Z : List ℕ) (H : List (Entry I)) (board : BoardView) (engine : Engine M I) : Type 0 where
  pub lawful : Lawful rules Z H
  pub shows : (view engine.machine).shows Z H
  pub stored : IsAtEnd rules.kind Z (map rules.encode H) board engine.journal

abbrev pub HasRoomForEntry : {I M : Type 0} → Rules I → Engine M I → Entry I → Type 0
HasRoomForEntry rules engine e = HasRoom engine.journal (length (rules.encode e))

abbrev pub HasRoomForOutcome : {I M : Type 0} → Rules I → Engine M I → Type 0
HasRoomForOutcome {I} rules engine = (told : Told) → HasRoomForEntry rules engine (Outcome told)

-- Whatever the board tells, what becomes of its counts: a failure of the disk has raised its count, and else that count is what it was.
-- A board that tells at the end told at the start, and one that told goes on to, unless the count of failed steps rose.
pub record Counts (old new : BoardView) (failed : Type 0) : Type 0 where
  pub tells : IsTrue new.tells → IsTrue old.tells
  pub goes_on : IsTrue old.tells → IsTrue new.tells ⊎ Rose old.issue_faults new.issue_faults
  pub disk_later : old.disk_faults ≤ new.disk_faults
  pub issue_later : old.issue_faults ≤ new.issue_faults
  pub disk : failed → Rose old.disk_faults new.disk_faults
  pub same : (failed → ⊥) → new.disk_faults ≡ old.disk_faults

-- whatever the board tells, the machine is one of some lawful history
pub record ShowsSome {I : Type 0} (rules : Rules I) (view : MachineView I) : Type 0 where
  pub settings : List ℕ
  pub history : List (Entry I)
  pub lawful : Lawful rules settings history
  pub shows : view.shows settings history

-- what may stop the opening of a file that stands for this history
abbrev pub MayStop : {I : Type 0} → Rules I → List ℕ → List (Entry I) → EngineFault → Type 0
MayStop rules Z H NotFormatted = ⊥
MayStop rules Z H (Corrupt at) = ⊥
MayStop rules Z H DiskFault = ⊤
MayStop rules Z H Full = WasOver rules Z H
MayStop rules Z H (Memory error) = ⊤

-- opened: until the first sync nothing is written, and from then on the file stands for the same history
pub record AfterOpen {I M : Type 0} (rules : Rules I) (view : M → MachineView I) (Z : List ℕ) (H : List (Entry I)) (old new : BoardView) (result : Result (Engine M I) EngineFault) : Type 0 where
  pub holds : IfOk result (λ engine. Holds rules view Z H new engine)
  pub sent : new.sent ≡ old.sent
  pub octets : new.octets ≡ old.octets
  pub any_moment : NeverSynced old new ⊎ SyncsFirst old new (LeavesPrefix rules Z H old.sent [])
  pub synced : OnOk result (SyncsFirst old new (LeavesPrefix rules Z H old.sent []))
  pub stops : IfErr result (MayStop rules Z H)
  pub none_over : OnOk result (NoneOver rules Z [] H)

-- Why a file isn't opened: it isn't formatted for this kind; it breaks at that place; the machine's own limit leaves no room for one of
-- its entries. A file of another kind takes no memory.
abbrev pub HasOpenCause : {I : Type 0} → Rules I → List ℕ → EngineFault → Type 0
HasOpenCause rules file NotFormatted = IsForKind rules.kind file → ⊥
HasOpenCause rules file (Corrupt at) = BreaksAt rules at file
HasOpenCause rules file DiskFault = ⊤
HasOpenCause rules file Full = HasOver rules file
HasOpenCause rules file (Memory error) = IsForKind rules.kind file

-- What opening a file says, whatever the file holds.
pub record Opens {I M : Type 0} (rules : Rules I) (view : M → MachineView I) (old new : BoardView) (result : Result (Engine M I) EngineFault) : Type 0 where
  -- where it stands for a lawful history, the machine shows that one
  pub opened : IsTrue new.tells → (Z : List ℕ) (H : List (Entry I)) → Lawful rules Z H → Stands rules Z H old.octets → AfterOpen rules view Z H old new result
  pub stands : IsTrue new.tells → OnOk result (StandsForSome rules old.octets)
  -- each refusal has its cause
  pub causes : IsTrue new.tells → IfErr result (HasOpenCause rules old.octets)
  pub counts : Counts old new (IsErrOf result DiskFault)
  -- nothing is written, and nothing issued
  pub moments : IsTrue new.tells → NeverSynced old new ⊎ SyncsFirst old new (LeavesAsRead old)
  pub octets : IsTrue new.tells → new.octets ≡ old.octets
  pub run : IsFileRun old new
  pub live : IfOk result (λ engine. IsLive engine × HasPlace new engine)
  pub shows : IfOk result (λ engine. ShowsSome rules (view engine.machine))

-- stored: the entry is in the history and on the disk; a crash on the way leaves a file with it or without
pub record AfterStore {I M : Type 0} (rules : Rules I) (view : M → MachineView I) (Z : List ℕ) (H : List (Entry I)) (e : Entry I) (old new : BoardView) (engine : Engine M I) (result : Result Unit EngineFault) : Type 0 where
  pub stored : OnOk result (Holds rules view Z (H ++ e ∷ []) new engine)
  pub sent : new.sent ≡ old.sent
  pub moments : LeavesOnly old new (λ left. SameSteps old left × StandsForEither rules.kind Z (map rules.encode H) (rules.encode e) left.image)

-- taken: the item is in the history and on the disk; a crash on the way leaves a prefix of the run without a crash
pub record AfterTake {I M : Type 0} (rules : Rules I) (view : M → MachineView I) (Z : List ℕ) (H : List (Entry I)) (e : Entry I) (old new : BoardView) (engine : Engine M I) (result : Result Unit EngineFault) : Type 0 where
  pub taken : OnOk result (Holds rules view Z (H ++ e ∷ []) new engine)
  pub refused : IsErr result → (IsErrOf result DiskFault → ⊥) → Holds rules view Z H new engine
  pub sent : new.sent ≡ old.sent
  pub moments : LeavesOnly old new (LeavesPrefix rules Z H old.sent (items_of e))

-- settled: the pending step was issued once, and what it was told is in the history and on the disk
abbrev pub Settled : {I M : Type 0} → Rules I → (M → MachineView I) → List ℕ → List (Entry I) → BoardView → BoardView → Engine M I → Option Told → Type 0
Settled rules view Z H old new engine None = (rules.pending Z H ≡ None) × Holds rules view Z H new engine × (new.sent ≡ old.sent)
Settled rules view Z H old new engine (Some told) =
    (step : Step) × (rules.pending Z H ≡ Some step) × (new.sent ≡ old.sent ++ record { step = step; told = told } ∷ [])
    × Holds rules view Z (H ++ Outcome told ∷ []) new engine

pub record AfterSettle {I M : Type 0} (rules : Rules I) (view : M → MachineView I) (Z : List ℕ) (H : List (Entry I)) (old new : BoardView) (engine : Engine M I) (result : Result (Option Told) EngineFault) : Type 0 where
  pub settled : IfOk result (Settled rules view Z H old new engine)
  pub refused : IsErr result → (IsErrOf result DiskFault → ⊥) → Holds rules view Z H new engine × (new.sent ≡ old.sent)
  pub moments : LeavesOnly old new (LeavesPrefix rules Z H old.sent [])

-- each of these entries is the one that its octets are read as
abbrev pub AllDecode : {I : Type 0} → Rules I → List (Entry I) → Type 0
AllDecode rules [] = ⊤
AllDecode rules (e ∷ H) = Decodes rules (rules.encode e) (Some e) × AllDecode rules H

-- what one entry of the file is to a machine that shows H: it goes on with it; or it is none that may come there; or the machine isn't ready
abbrev pub ReplaysOne : {I : Type 0} → Rules I → MachineView I → List ℕ → List (Entry I) → List ℕ → ℕ → Result Unit EngineFault → Type 0
ReplaysOne {I} rules new Z H octets gate (Ok _) =
    (e : Entry I) × Decodes rules octets (Some e) × Allowed rules Z H e × (IsOver rules Z H e → ⊥) × new.shows Z (H ++ e ∷ [])
ReplaysOne {I} rules new Z H octets gate (Err (Corrupt at)) = (at ≡ gate) × ((e : Entry I) → rules.is_entry e → rules.encode e ≡ octets → Allowed rules Z H e → ⊥)
ReplaysOne {I} rules new Z H octets gate (Err Full) = (e : Entry I) × Decodes rules octets (Some e) × Allowed rules Z H e × IsOver rules Z H e
ReplaysOne {I} rules new Z H octets gate (Err (Memory error)) = (e : Entry I) × Decodes rules octets (Some e) × Allowed rules Z H e × IsTrue rules.takes_memory
ReplaysOne rules new Z H octets gate (Err DiskFault) = ⊥
ReplaysOne rules new Z H octets gate (Err NotFormatted) = ⊥

-- so far the file was synced and read, and nothing else
pub record OnlyRead (start now : BoardView) : Type 0 where
  pub run : IsFileRun start now
  pub octets : IsTrue now.tells → now.octets ≡ start.octets
  pub moments : IsTrue now.tells → SyncsFirst start now (LeavesAsRead start)

-- so far these entries of the file were replayed
pub record Replayed {I M : Type 0} (rules : Rules I) (view : M → MachineView I) (now : BoardView) (machine : M) (journal : Journal) : Type 0 where
  pub settings : List ℕ
  pub done : List (Entry I)
  pub lawful : Lawful rules settings done
  pub none_over : NoneOver rules settings [] done
  pub shows : (view machine).shows settings done
  pub decode : AllDecode rules done
  pub read : IsTrue now.tells → HasRead rules.kind settings (map rules.encode done) now journal
