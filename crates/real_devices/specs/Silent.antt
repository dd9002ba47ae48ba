-- A board that tells nothing of its content.
use Rattle.std.specs.Prelude.{ℕ, false, []}
use Rattle.std.proofs.lemmas.Bool.{false≢true}
use Rattle.board_core.specs.Board.{BoardView, IsSound}
use Rattle.board_core.specs.Causes.{IsCount}

-- the two counts are all that is said of it
abbrev pub silent_view : ℕ → ℕ → BoardView
silent_view disk_faults issue_faults = record {
  tells = false;
  octets = [];
  sent = [];
  images = λ c. ⊥;
  moment = 0;
  left_since = λ t c. ⊥;
  disk_faults = disk_faults;
  issue_faults = issue_faults;
}

pub silent_sound : (disk_faults issue_faults : ℕ) → IsCount disk_faults → IsCount issue_faults → IsSound (silent_view disk_faults issue_faults)
silent_sound disk_faults issue_faults disk_counted issue_counted = record {
  is_image = λ tells. absurd (false≢true tells);
  counts_now = λ tells. absurd (false≢true tells);
  only_now = λ tells. absurd (false≢true tells);
  earlier = λ tells. absurd (false≢true tells);
  disk_count = disk_counted;
  issue_count = issue_counted;
}
