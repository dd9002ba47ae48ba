-- What holds of each board in memory.
use Rattle.std.specs.Prelude.{◌*◌, List, [], ◌∷◌, refl}
use Rattle.std.proofs.Common.{inl, sym, subst, arith}
use Rattle.board_core.specs.Board.{IsSound}
use Rattle.board_core.specs.Moments.{Past, State, state_of, after, after_all, fresh_state}
use Rattle.board_core.specs.Kept.{past_of}
use Rattle.board_core.specs.MemoryBoard.{memory_view}
use Rattle.board_core.specs.declared.call.Call.{Call}
use Rattle.board_core.specs.declared.call.Effect.{Effect}
use Rattle.board_core.specs.declared.call.Effect.TheVariants.{Wrote, Spoiled, Synced, Issued}
use Rattle.board_core.specs.declared.trace.Trace.{Trace}
use Rattle.board_core.specs.declared.memory_board.MemBoard.{MemBoard}
use Rattle.board_core.specs.AtMoment.{IsTraced, now_from_leaves, leaves_now}

image_after : (s : State) (effect : Effect) → s.images s.octets → (after s effect).images (after s effect).octets
image_after s (Wrote place octets) now = inl refl
image_after s (Spoiled place count) now = inl refl
image_after s Synced now = refl
image_after s Issued now = now

image_after_all : (s : State) (calls : List Call) → s.images s.octets → (after_all s calls).images (after_all s calls).octets
image_after_all s [] now = now
image_after_all s (call ∷ calls) now = image_after_all (after s call.effect) calls (image_after s call.effect now)

pub is_traced : (trace : Trace) → IsTraced (past_of trace)
is_traced trace = record { listed = trace.listed; numbered = trace.calls.numbered }

-- what a read gives is an image
pub image_now : (trace : Trace) → (state_of (past_of trace)).images trace.octets.items
image_now trace = subst (state_of (past_of trace)).images (sym trace.replayed) (image_after_all (fresh_state trace.start.items trace.earlier) trace.calls.kept.items refl)

pub memory_sound : (board : MemBoard) → IsSound (memory_view board)
memory_sound board = record {
  is_image = λ tells. image_now board.trace;
  counts_now = λ tells since left le now. record {
    moment = 2 * past.made;
    later = le;
    had = omega arith;
    leaves = leaves_now past traced (2 * past.made) (omega arith) board.tells board.trace.octets.items board.disk_faults board.issue_faults left now;
  };
  only_now = λ tells left was. now_from_leaves past traced was.moment was.later board.tells board.trace.octets.items board.disk_faults board.issue_faults left was.leaves;
  earlier = λ tells since later left le was. record { moment = was.moment; later = omega (arith, le, was.later); had = was.had; leaves = was.leaves };
  disk_count = board.disk_counted;
  issue_count = board.issue_counted;
}
  where
    past : Past
    past = past_of board.trace

    traced : IsTraced past
    traced = is_traced board.trace
