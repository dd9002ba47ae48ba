-- Where a journal stands in its file.
use Rattle.std.specs.Prelude.{◌≡◌, ◌≢◌, ◌⊎◌, ℕ, ◌+◌, ◌≤◌, Bool, true, false, IsTrue, List, [], ◌∷◌, ◌++◌, length, Result, Ok, Err, ⊤}
use Rattle.board_core.specs.Board.{BoardView, CrashState, Only, SameSteps, Torn}
use Rattle.pef_journal.specs.Image.{header, blocks, HasHeader, HasEntries, AllPayloads, Stands, IsShutAt, IsCorruptAt, HasEntryAt}
use Rattle.pef_journal.specs.declared.kind.FileKind.{FileKind}
use Rattle.pef_journal.specs.declared.fault.JournalFault.{JournalFault}
use Rattle.pef_journal.specs.declared.fault.JournalFault.TheVariants.{NotFormatted, Corrupt, DiskFault, Full}
use Rattle.pef_journal.specs.declared.journal.Journal.{Journal}

abbrev pub HasEnded : Journal → Type 0
HasEnded journal = IsTrue journal.ended

-- a gate and an entry of n octets fit behind the last entry
abbrev pub HasRoom : Journal → ℕ → Type 0
HasRoom journal n = journal.place + 4 + n ≤ 16777216

-- a crash leaves the file as a read gave it then, and no further step
abbrev pub LeavesAsRead : BoardView → CrashState → Type 0
LeavesAsRead v left = SameSteps v left × (left.image ≡ v.octets)

-- a crash leaves an image of then, other at most in a write of n octets at this place, and no further step
abbrev pub LeavesTorn : ℕ → ℕ → BoardView → CrashState → Type 0
LeavesTorn place n v left = (image : List ℕ) × v.images image × Torn place n image left.image × SameSteps v left

-- it has read these entries, and stands at the gate behind the last of them, whatever that is; all of it is on the disk
pub record HasRead (kind : FileKind) (settings : List ℕ) (before : List (List ℕ)) (v : BoardView) (journal : Journal) : Type 0 where
  pub rest : List ℕ
  pub file : HasHeader kind settings (blocks before ++ rest) v.octets
  pub behind : rest ≢ []
  pub payloads : AllPayloads before
  pub place : journal.place ≡ length (header kind settings ++ blocks before)
  pub lasting : Only v.octets v.images

-- it stands behind these entries and before those, and all of it is on the disk
pub record IsAt (kind : FileKind) (settings : List ℕ) (before after : List (List ℕ)) (v : BoardView) (journal : Journal) : Type 0 where
  pub rest : List ℕ
  pub file : HasHeader kind settings (blocks before ++ rest) v.octets
  pub place : journal.place ≡ length (header kind settings ++ blocks before)
  pub left : HasEntries after rest
  pub stands : Stands kind settings (before ++ after) v.octets
  pub lasting : Only v.octets v.images

-- it stands at the first closed gate
pub record IsAtEnd (kind : FileKind) (settings : List ℕ) (entries : List (List ℕ)) (v : BoardView) (journal : Journal) : Type 0 where
  pub at : IsAt kind settings entries [] v journal
  pub ended : HasEnded journal

-- the next entry is handed out, or there is none
abbrev pub GivesEntry : FileKind → List ℕ → List (List ℕ) → List (List ℕ) → BoardView → Journal → List ℕ → Bool → Type 0
GivesEntry kind settings before (entry ∷ after) v journal out true = (out ≡ entry) × IsAt kind settings (before ++ entry ∷ []) after v journal
GivesEntry kind settings before [] v journal out false = IsAtEnd kind settings before v journal
GivesEntry kind settings before (entry ∷ after) v journal out false = ⊥
GivesEntry kind settings before [] v journal out true = ⊥

-- one entry more was read, or the first closed gate was met
abbrev pub ReadsOn : FileKind → List ℕ → List (List ℕ) → BoardView → Journal → List ℕ → Bool → Type 0
ReadsOn kind settings before v journal out true = HasRead kind settings (before ++ out ∷ []) v journal
ReadsOn kind settings before v journal out false = IsAtEnd kind settings before v journal

-- what each answer says of the gate at this place
abbrev pub Finds : List ℕ → ℕ → List ℕ → Result Bool JournalFault → Type 0
Finds file gate out (Ok true) = HasEntryAt file gate out
Finds file gate out (Ok false) = IsShutAt file gate
Finds file gate out (Err (Corrupt at)) = (at ≡ gate) × IsCorruptAt file gate
Finds file gate out (Err DiskFault) = ⊤
Finds file gate out (Err NotFormatted) = ⊥
Finds file gate out (Err Full) = ⊥

-- the file holds the entries, with one more or without it
abbrev pub StandsForEither : FileKind → List ℕ → List (List ℕ) → List ℕ → List ℕ → Type 0
StandsForEither kind settings entries entry file = Stands kind settings entries file ⊎ Stands kind settings (entries ++ entry ∷ []) file
