-- From what a run keeps to what `receive` promises of acknowledgements.
use Rattle.std.proofs.Common.{⊎_elim, inl, inr, ℕ, List, [], ◌++◌}
use Rattle.board_core.specs.declared.step.Sent.{Sent}
use Rattle.board_core.specs.Board.{BoardView, CrashState}
use Rattle.pef_journal.proofs.Moments.{syncs_map}
use Rattle.pef_engine.specs.declared.entry.Entry.{Entry}
use Rattle.pef_engine.specs.Rules.{Lawful}
use Rattle.pef_engine.specs.CrashFree.{LeavesPrefix}
use Rattle.pef_engine.proofs.Compose.{lawful_compose}
use Rattle.script_run.specs.Top.{RunKeeps}
use Rattle.trap_console.specs.declared.item.Item.{Item}
use Rattle.trap_console.specs.Histories.{console_rules}
use Rattle.trap_console.proofs.Acks.{acks_are_rows}
use Rattle.trap_console.proofs.Firsts.{rows_are_firsts}
use Rattle.pef_call.specs.Receiving.{HasAcked, KeepsAcks}

module _ (Z : List ℕ) (H : List (Entry Item)) (lawful : Lawful console_rules Z H) (items : List Item) where
  acked : (sent : List Sent) (left : CrashState) → LeavesPrefix console_rules Z H sent items left → HasAcked Z sent left
  acked sent left leaves = record {
    history = H ++ leaves.entries;
    lawful = lawful_compose console_rules Z [] H leaves.entries lawful leaves.lawful;
    stands = leaves.stands;
    rows = rows_are_firsts (H ++ leaves.entries);
    steps = leaves.steps;
    issued = leaves.issued;
    acks = acks_are_rows Z H leaves.entries leaves.steps leaves.kept;
  }

  pub keeps_acks : (old new : BoardView) → RunKeeps console_rules Z H items old new → KeepsAcks Z old new
  keeps_acks old new keeps = record {
    moments = ⊎_elim inl (λ first. inr (syncs_map old new (LeavesPrefix console_rules Z H old.sent items) (HasAcked Z old.sent) (acked old.sent) first)) keeps.moments;
    returned = acked old.sent _ keeps.returned;
    whole_call = λ whole c left. acked old.sent c (keeps.whole_call whole c left);
  }
