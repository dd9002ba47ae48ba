-- The steps of formatting a file.
use Rattle.std.specs.Prelude.{◌≡◌, ◌≢◌, ◌⊎◌, ℕ, ◌+◌, ◌/◌, ◌%◌, Bool, ◌&&◌, nat_le, nat_lt, bytes_eq, List, [], ◌∷◌, ◌++◌, length, drop}
use Rattle.board_core.specs.Board.{BoardView, CrashState, SameSteps}
use Rattle.pef_journal.specs.declared.kind.FileKind.{FileKind}
use Rattle.pef_journal.specs.Image.{IsMarked, Stands}

-- what stands behind octet 0 up to the first gate, which is closed
abbrev pub body : FileKind → List ℕ → List ℕ
body kind settings = kind.number ∷ (length settings % 256) ∷ (length settings / 256) ∷ (settings ++ 0 ∷ [])

-- the file is empty, or octet 0 is that of a formatted file
abbrev pub MayBeMarked : List ℕ → Type 0
MayBeMarked file = (file ≡ []) ⊎ ((rest : List ℕ) × (file ≡ 165 ∷ rest))

-- octet 0 is there and isn't that of a formatted file, and what is behind it is as before
abbrev pub IsUnmarked : List ℕ → List ℕ → Type 0
IsUnmarked old new = (octet : ℕ) × (octet ≢ 165) × (new ≡ octet ∷ drop 1 old)

-- the file is as it was, or isn't marked, so that it is formatted as no kind
abbrev pub IsSameOrUnmarked : List ℕ → List ℕ → Type 0
IsSameOrUnmarked old file = (file ≡ old) ⊎ (IsMarked file → ⊥)

-- a crash leaves such a file, and no further step
abbrev pub LeavesUnmarked : BoardView → CrashState → Type 0
LeavesUnmarked v left = SameSteps v left × IsSameOrUnmarked v.octets left.image

-- A crash leaves such a file, or the one that is to be made, and no further step.
abbrev pub LeavesMaking : FileKind → List ℕ → BoardView → CrashState → Type 0
LeavesMaking kind settings v left = SameSteps v left × (IsSameOrUnmarked v.octets left.image ⊎ Stands kind settings [] left.image)

-- a file of this length that begins with these four octets is of this kind, as a test
abbrev pub has_head : List ℕ → ℕ → FileKind → Bool
has_head head n kind =
    (nat_le kind.settings 64 && bytes_eq head (165 ∷ kind.number ∷ (kind.settings % 256) ∷ (kind.settings / 256) ∷ [])) && nat_lt (4 + kind.settings) n
