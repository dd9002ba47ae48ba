-- What a crash in a call of `init` leaves.
use Rattle.std.proofs.Common.{◌≡◌, inl, inr, ⊎_elim, ℕ, List, Option, ap, ◌∙◌, subst}
use Rattle.board_core.specs.Board.{BoardView, CrashState, LeavesOnly, SyncsFirst, steps_of, tolds_of}
use Rattle.pef_journal.specs.Image.{IsFormatted}
use Rattle.pef_journal.specs.Format.{LeavesMaking}
use Rattle.pef_journal.specs.Journal.{LeavesAsRead}
use Rattle.pef_journal.proofs.Formats.{unmarked_unformatted}
use Rattle.pef_journal.proofs.Moments.{syncs_map, syncs_then}
use Rattle.pef_call.specs.Init.{Making, Gives, LeavesMade, KeepsMoments}

module _ (of : Making) (source : Option (List ℕ)) (old : BoardView) where
  pub as_read : (left : CrashState) → LeavesAsRead old left → LeavesMade of source old left
  as_read left read = record {
    steps = read.0;
    formatted = λ is. read.1;
    unformatted = λ isnt. inl (λ is. isnt (subst (λ (f : List ℕ). IsFormatted of.kinds f) read.1 is));
  }

  -- nothing was written behind the first sync
  pub kept : (new : BoardView) → SyncsFirst old new (LeavesAsRead old) → KeepsMoments of source old new
  kept new first = inr (syncs_map old new (LeavesAsRead old) (LeavesMade of source old) as_read first)

  module _ (mid : BoardView) (settings : List ℕ) (sent : mid.sent ≡ old.sent) (same : mid.octets ≡ old.octets) (isnt : IsFormatted of.kinds old.octets → ⊥) (gives : Gives of source settings) where
    while_made : (left : CrashState) → LeavesMaking of.kind settings mid left → LeavesMade of source old left
    while_made left made = record {
      steps = record { issued = made.0.issued ∙ ap steps_of sent; told = made.0.told ∙ ap tolds_of sent };
      formatted = λ is. absurd (isnt is);
      unformatted = λ isnt. ⊎_elim
          (λ other. inl (⊎_elim (λ as_before is. isnt (subst (λ (f : List ℕ). IsFormatted of.kinds f) (as_before ∙ same) is)) (unmarked_unformatted of.kinds left.image) other))
          (λ stands. inr (settings, gives, stands)) made.1;
    }

    -- the file was made behind the first sync
    pub made : (new : BoardView) → SyncsFirst old mid (LeavesAsRead old) → LeavesOnly mid new (LeavesMaking of.kind settings mid) → KeepsMoments of source old new
    made new first later = inr (syncs_then old mid new (LeavesAsRead old) (LeavesMaking of.kind settings mid) (LeavesMade of source old) first later as_read while_made)
