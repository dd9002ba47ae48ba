-- What a crash makes of a board in memory.
use Rattle.std.specs.Prelude.{◌≡◌, ℕ, ◌≤◌, List, [], true, Option, Some, None}
use Rattle.board_core.specs.Board.{Only, CrashState, steps_of, tolds_of}
use Rattle.board_core.specs.declared.step.Sent.{Sent}
use Rattle.board_core.specs.declared.memory_board.MemBoard.{MemBoard}
use Rattle.board_core.specs.Moments.{Past, state_at, sent_at, answered_at, LeavesAt}
use Rattle.board_core.specs.TornImage.{IsLongestTorn}
use Rattle.board_core.specs.Kept.{past_of}
use Rattle.board_core.specs.MemoryBoard.{memory_view}

-- a board on which no call was made, with this file, all of it on the disk, these steps, and these calls to fail
pub record IsMade (content : List ℕ) (steps : List Sent) (failing_disk failing_issue : List ℕ) (board : MemBoard) : Type 0 where
  pub tells : (memory_view board).tells ≡ true
  pub octets : (memory_view board).octets ≡ content
  pub lasting : Only content (memory_view board).images
  pub sent : (memory_view board).sent ≡ steps
  pub moment : (memory_view board).moment ≡ 0
  pub file_calls : board.file_calls.listed.items ≡ failing_disk
  pub issue_calls : board.issue_calls.listed.items ≡ failing_issue
  pub next_file : board.file_calls.next ≡ 0
  pub next_issue : board.issue_calls.next ≡ 0
  pub starved : board.starved ≡ 0
  pub disk_faults : (memory_view board).disk_faults ≡ 0
  pub issue_faults : (memory_view board).issue_faults ≡ 0

-- what a crash at this moment leaves where the file that it leaves is this image
abbrev pub left_at : Past → ℕ → List ℕ → CrashState
left_at past moment image = record { image = image; issued = steps_of (sent_at past moment); told = tolds_of (answered_at past moment) }

-- A crash of this board at this moment leaves that board.
pub record IsCrash (old : MemBoard) (moment torn : ℕ) (board : MemBoard) : Type 0 where
  pub image : List ℕ
  -- as long as it may be, with the one octet wherever a crash may leave any
  pub longest : IsLongestTorn torn (state_at (past_of old.trace) moment).synced (state_at (past_of old.trace) moment).written image
  -- the disk model allows it at this moment, with the steps that were issued by then and what was told of those finished
  pub allowed : LeavesAt (past_of old.trace) moment (left_at (past_of old.trace) moment image)
  pub left_since : (memory_view old).left_since moment (left_at (past_of old.trace) moment image)
  -- the steps issued by then are listed with what each was told, and no call is to fail
  pub made : IsMade image (sent_at (past_of old.trace) moment) [] [] board

-- There is no such moment, or a crash leaves that board.
abbrev pub Crashes : MemBoard → ℕ → ℕ → Option MemBoard → Type 0
Crashes old moment torn None = moment ≤ (memory_view old).moment → ⊥
Crashes old moment torn (Some board) = (moment ≤ (memory_view old).moment) × IsCrash old moment torn board
