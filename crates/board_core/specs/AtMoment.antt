-- What a crash at a moment leaves, now and after one more call.
use Rattle.std.proofs.Common.{◌≡◌, ℕ, ◌+◌, ◌*◌, ◌<◌, ◌≤◌, Bool, true, cond, List, [], ◌∷◌, length, take, refl, sym, ◌∙◌, ap, subst, arith}
use Rattle.std.specs.List.{All, take_while}
use Rattle.std.proofs.lemmas.Bool.{le-leb}
use Rattle.std.proofs.lemmas.List.{take_all}
use Rattle.std.proofs.lemmas.List.Sums.{take_while-cons}
use Rattle.std.proofs.lemmas.List.Elements.{All-weaker, All-head, All-tail}
use Rattle.board_core.specs.declared.call.Call.{Call}
use Rattle.board_core.specs.declared.call.Effect.{Effect}
use Rattle.board_core.specs.declared.call.Effect.TheVariants.{Wrote, Spoiled, Synced, Issued}
use Rattle.board_core.specs.Board.{CrashState, LeftNow, steps_of, tolds_of}
use Rattle.board_core.specs.Moments.{Past, State, state_of, state_at, finished_at, state_after, effective_from, is_effective, is_finished, LeavesAt}
use Rattle.board_core.specs.MemoryBoard.{view_of}

-- all of them, where each passes
pub take_while_all : {X : Type 0} (p : X → Bool) (xs : List X) → All (λ x. p x ≡ true) xs → take_while p xs ≡ xs
take_while_all p [] all = refl
take_while_all p (x ∷ xs) all =
    take_while-cons p x xs ∙ (λ i. cond (All-head (λ y. p y ≡ true) x xs all i) (x ∷ take_while_all p xs (All-tail (λ y. p y ≡ true) x xs all) i) [])

-- what is kept of a board fits together
pub record IsTraced (past : Past) : Type 0 where
  pub listed : (state_of past).issued ≡ length past.sent
  pub numbered : All (λ (call : Call). call.number < past.made) past.calls

pub effective_after : (number : ℕ) (effect : Effect) → 2 * number + 1 ≤ effective_from number effect
effective_after number (Wrote place octets) = omega arith
effective_after number (Spoiled place count) = omega arith
effective_after number Synced = omega arith
effective_after number Issued = omega arith

pub effective_by : (number : ℕ) (effect : Effect) → effective_from number effect ≤ 2 * number + 2
effective_by number (Wrote place octets) = omega arith
effective_by number (Spoiled place count) = omega arith
effective_by number Synced = omega arith
effective_by number Issued = omega arith

module _ (past : Past) (traced : IsTraced past) where
  module _ (moment : ℕ) (by_now : 2 * past.made ≤ moment) where
    all_effective : take_while (is_effective moment) past.calls ≡ past.calls
    all_effective = take_while_all (is_effective moment) past.calls
        (All-weaker (λ (call : Call). call.number < past.made) (λ (call : Call). is_effective moment call ≡ true)
        (λ call before. le-leb _ _ (omega (arith, before, by_now, effective_by call.number call.effect))) past.calls traced.numbered)

    all_finished : take_while (is_finished moment) past.calls ≡ past.calls
    all_finished = take_while_all (is_finished moment) past.calls
        (All-weaker (λ (call : Call). call.number < past.made) (λ (call : Call). is_finished moment call ≡ true)
        (λ call before. le-leb _ _ (omega (arith, before, by_now))) past.calls traced.numbered)

    pub state_now : state_at past moment ≡ state_of past
    state_now = ap (state_after past.start past.earlier) all_effective

    pub finished_now : finished_at past moment ≡ state_of past
    finished_now = ap (state_after past.start past.earlier) all_finished

    pub all_sent : take (state_of past).issued past.sent ≡ past.sent
    all_sent = take_all (state_of past).issued past.sent (omega (arith, traced.listed))

    pub sent_now : take (state_at past moment).issued past.sent ≡ past.sent
    sent_now = ap (λ (s : State). take s.issued past.sent) state_now ∙ all_sent

    answered_now : take (finished_at past moment).issued past.sent ≡ past.sent
    answered_now = ap (λ (s : State). take s.issued past.sent) finished_now ∙ all_sent

    pub now_from_leaves : (tells : Bool) (octets : List ℕ) (d i : ℕ) (left : CrashState) → LeavesAt past moment left → LeftNow (view_of tells octets d i past) left
    now_from_leaves tells octets d i left leaves = record {
      image = subst (λ (s : State). s.images left.image) state_now leaves.image;
      issued = leaves.issued ∙ ap steps_of sent_now;
      told = leaves.told ∙ ap tolds_of answered_now;
    }

    pub leaves_now : (tells : Bool) (octets : List ℕ) (d i : ℕ) (left : CrashState) → LeftNow (view_of tells octets d i past) left → LeavesAt past moment left
    leaves_now tells octets d i left now = record {
      image = subst (λ (s : State). s.images left.image) (sym state_now) now.image;
      issued = now.issued ∙ sym (ap steps_of sent_now);
      told = now.told ∙ sym (ap tolds_of answered_now);
    }
