-- What runs on boards in memory leave.
use Rattle.std.specs.Prelude.{ℕ, List}
use Rattle.board_core.specs.declared.memory_board.MemBoard.{MemBoard}
use Rattle.board_core.specs.declared.step.Sent.{Sent}
use Rattle.board_core.specs.Board.{CrashState, steps_of}
use Rattle.board_core.specs.MemoryBoard.{memory_view}
use Rattle.pef_engine.specs.declared.entry.Entry.{Entry}
use Rattle.pef_engine.specs.Rules.{Rules, Lawful, Stands}
use Rattle.pef_engine.specs.CrashFree.{LeavesPrefix}
use Rattle.pef_engine.specs.Lives.{IsRepeating}
use Rattle.script_run.specs.Top.{ReturnLeft}

-- At each moment since the board was made a crash leaves H and one prefix of the run without a crash, with its steps; and so does the
-- return.
pub record KeepsInMemory {I : Type 0} (rules : Rules I) (Z : List ℕ) (H : List (Entry I)) (sent : List Sent) (items : List I) (board : MemBoard) : Type 0 where
  pub each : (c : CrashState) → (memory_view board).left_since 0 c → LeavesPrefix rules Z H sent items c
  pub returned : LeavesPrefix rules Z H sent items (ReturnLeft (memory_view board))

-- Its file holds a lawful history, and without at most n repeats its steps are those that this history prescribes, or these and the one
-- that is due.
pub record Repeats {I : Type 0} (rules : Rules I) (Z : List ℕ) (n : ℕ) (board : MemBoard) : Type 0 where
  pub history : List (Entry I)
  pub lawful : Lawful rules Z history
  pub stands : Stands rules Z history (memory_view board).octets
  pub steps : IsRepeating rules Z n (steps_of (memory_view board).sent) history
