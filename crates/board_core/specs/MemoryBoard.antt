-- A board in memory, as a board.
use Rattle.std.specs.Prelude.{◌≡◌, ℕ, ◌*◌, Bool, List}
use Rattle.board_core.specs.Board.{BoardView}
use Rattle.board_core.specs.Moments.{Past, LeftSince, state_of}
use Rattle.board_core.specs.Kept.{past_of}
use Rattle.board_core.specs.Failures.{CountsOne, IsSameList, one_more}
use Rattle.board_core.specs.declared.memory_board.MemBoard.{MemBoard}

-- what is said of a board of which this is kept
abbrev pub view_of : Bool → List ℕ → ℕ → ℕ → Past → BoardView
view_of tells octets disk_faults issue_faults past = record {
  tells = tells;
  octets = octets;
  sent = past.sent;
  images = (state_of past).images;
  moment = 2 * past.made;
  left_since = LeftSince past;
  disk_faults = disk_faults;
  issue_faults = issue_faults;
}

abbrev pub memory_view : MemBoard → BoardView
memory_view board = view_of board.tells board.trace.octets.items board.disk_faults board.issue_faults (past_of board.trace)

-- one more call of the file was made, and none of the other kind
pub record IsFileCallOf (old new : MemBoard) : Type 0 where
  pub file : CountsOne old.file_calls new.file_calls
  pub issue : IsSameList old.issue_calls new.issue_calls
  pub moment : new.trace.calls.made ≡ one_more old.trace.calls.made

-- one more step was issued, and no call of the file was made
pub record IsIssueCallOf (old new : MemBoard) : Type 0 where
  pub file : IsSameList old.file_calls new.file_calls
  pub issue : CountsOne old.issue_calls new.issue_calls
  pub moment : new.trace.calls.made ≡ one_more old.trace.calls.made
