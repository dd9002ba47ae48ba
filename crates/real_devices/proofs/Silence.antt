-- What a board that tells nothing has to keep: its counts alone.
use Rattle.std.proofs.Common.{◌≤◌, ℕ, List, Result, inl, refl}
use Rattle.std.proofs.lemmas.Bool.{false≢true}
use Rattle.board_core.specs.Board.{IsFileCall, Reads, TakesWrite, Syncs, Issues}
use Rattle.board_core.specs.declared.step.Step.{Step}
use Rattle.board_core.specs.declared.step.Told.{Told}
use Rattle.real_devices.specs.Silent.{silent_view}

pub silent_call : (before now issue_faults : ℕ) → before ≤ now → IsFileCall (silent_view before issue_faults) (silent_view now issue_faults)
silent_call before now issue_faults later = record {
  run = record {
    tells = λ tells. tells;
    goes_on = λ tells. tells;
    sent = λ tells. absurd (false≢true tells);
    disk_faults = later;
    issue_faults = refl;
    later = λ tells. absurd (false≢true tells);
    keeps = λ tells. absurd (false≢true tells);
  };
  nothing_else = λ tells. absurd (false≢true tells);
}

pub silent_read : (before now issue_faults : ℕ) → before ≤ now → Reads (silent_view before issue_faults) (silent_view now issue_faults)
silent_read before now issue_faults later = record {
  call = silent_call before now issue_faults later;
  octets = λ tells. absurd (false≢true tells);
  images = λ tells. absurd (false≢true tells);
}

pub silent_write : {E : Type 0} (place : ℕ) (from : List ℕ) (result : Result Unit E) (before now issue_faults : ℕ) → before ≤ now → TakesWrite place from (silent_view before issue_faults) (silent_view now issue_faults) result
silent_write place from result before now issue_faults later = record {
  call = silent_call before now issue_faults later;
  written = λ tells. absurd (false≢true tells);
  failed = λ tells. absurd (false≢true tells);
  images = λ tells. absurd (false≢true tells);
}

pub silent_sync : {E : Type 0} (result : Result Unit E) (before now issue_faults : ℕ) → before ≤ now → Syncs (silent_view before issue_faults) (silent_view now issue_faults) result
silent_sync result before now issue_faults later = record {
  call = silent_call before now issue_faults later;
  octets = λ tells. absurd (false≢true tells);
  lasting = λ tells. absurd (false≢true tells);
  failed = λ tells. absurd (false≢true tells);
  fewer = λ tells. absurd (false≢true tells);
}

pub silent_issue : (step : Step) (told : Told) (disk_faults before now : ℕ) → before ≤ now → Issues step told (silent_view disk_faults before) (silent_view disk_faults now)
silent_issue step told disk_faults before now later = record {
  tells = λ tells. tells;
  stops = λ tells. inl tells;
  octets = λ tells. absurd (false≢true tells);
  images = λ tells. absurd (false≢true tells);
  sent = λ tells. absurd (false≢true tells);
  disk_faults = refl;
  issue_faults = later;
  later = λ tells. absurd (false≢true tells);
  nothing_else = λ tells. absurd (false≢true tells);
  keeps = λ tells. absurd (false≢true tells);
}
