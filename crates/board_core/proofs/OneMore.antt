-- What one more call adds to what a crash may leave.
use Rattle.std.proofs.Common.{◌≡◌, ◌⊎◌, inl, inr, ⊎_elim, ℕ, ◌+◌, ◌*◌, ◌<◌, ◌≤◌, true, List, [], ◌∷◌, ◌++◌, length, take, refl, sym, ◌∙◌, ap, subst, arith}
use Rattle.std.specs.List.{take_while}
use Rattle.std.proofs.lemmas.Bool.{le-leb, lt-leb, cases_lt}
use Rattle.std.proofs.lemmas.List.Elements.{All-weaker, All-push}
use Rattle.board_core.specs.declared.step.Sent.{Sent}
use Rattle.board_core.specs.declared.call.Call.{Call}
use Rattle.board_core.specs.declared.call.Effect.{Effect}
use Rattle.board_core.specs.Board.{CrashState, steps_of, tolds_of}
use Rattle.board_core.specs.Moments.{Past, State, state_of, state_at, finished_at, state_after, fresh_state, after, effective_from, is_effective, is_finished, LeavesAt, LeftSince}
use Rattle.board_core.proofs.FirstCalls.{take_while_push_no, issued_while}
use Rattle.board_core.proofs.Pushed.{state-push}
use Rattle.board_core.specs.AtMoment.{IsTraced, effective_after, effective_by, finished_now, all_sent, state_now, take_while_all}

-- a past with one more call, and the same steps at its front
abbrev pub with_more : Past → Effect → List Sent → Past
with_more past effect sent = record {
  start = past.start;
  earlier = past.earlier;
  calls = past.calls ++ record { number = past.made; effect = effect } ∷ [];
  sent = sent;
  made = past.made + 1;
}

module _ (past : Past) (traced : IsTraced past) (effect : Effect) (sent : List Sent) (front : (n : ℕ) → n ≤ length past.sent → take n sent ≡ take n past.sent) where
  abbrev more : Past
  more = with_more past effect sent

  abbrev call : Call
  call = record { number = past.made; effect = effect }

  pub state_more : state_of more ≡ after (state_of past) effect
  state_more = state-push past.start past.earlier past.calls more.calls call refl

  pub traced_more : (after (state_of past) effect).issued ≡ length sent → IsTraced more
  traced_more listed = record {
    listed = ap (λ (s : State). s.issued) state_more ∙ listed;
    numbered = All-push (λ (c : Call). c.number < past.made + 1) past.calls call
        (All-weaker (λ (c : Call). c.number < past.made) (λ (c : Call). c.number < past.made + 1) (λ c before. omega (arith, before)) past.calls traced.numbered) (omega arith);
  }

  state_before : (moment : ℕ) → moment ≤ 2 * past.made → state_at more moment ≡ state_at past moment
  state_before moment before = ap (state_after past.start past.earlier)
      (take_while_push_no (is_effective moment) past.calls call (lt-leb _ _ (omega (arith, before, effective_after past.made effect))))

  pub finished_before : (moment : ℕ) → moment ≤ 2 * past.made + 1 → finished_at more moment ≡ finished_at past moment
  finished_before moment before = ap (state_after past.start past.earlier)
      (take_while_push_no (is_finished moment) past.calls call (lt-leb _ _ (omega (arith, before))))

  -- in the middle of the call it has its effect, or hasn't yet
  pub state_middle : effective_from past.made effect ≡ 2 * past.made + 1 → state_at more (2 * past.made + 1) ≡ after (state_of past) effect
  state_middle now = ap (state_after past.start past.earlier) all_by_now ∙ state_more
    where
      all_by_now : take_while (is_effective (2 * past.made + 1)) more.calls ≡ more.calls
      all_by_now = take_while_all (is_effective (2 * past.made + 1)) more.calls
          (All-push (λ (c : Call). is_effective (2 * past.made + 1) c ≡ true) past.calls call
          (All-weaker (λ (c : Call). c.number < past.made) (λ (c : Call). is_effective (2 * past.made + 1) c ≡ true)
          (λ c before. le-leb _ _ (omega (arith, before, effective_by c.number c.effect))) past.calls traced.numbered) (le-leb _ _ (omega (arith, now))))

  pub state_middle_not_yet : effective_from past.made effect ≡ 2 * past.made + 2 → state_at more (2 * past.made + 1) ≡ state_of past
  state_middle_not_yet then' = ap (state_after past.start past.earlier) (take_while_push_no (is_effective (2 * past.made + 1)) past.calls call (lt-leb _ _ (omega (arith, then'))))
      ∙ state_now past traced (2 * past.made + 1) (omega arith)

  issued_by : (moment : ℕ) → (state_at past moment).issued ≤ length past.sent
  issued_by moment = omega (arith, traced.listed, issued_while (is_effective moment) (fresh_state past.start past.earlier) past.calls)

  answered_by : (moment : ℕ) → (finished_at past moment).issued ≤ length past.sent
  answered_by moment = omega (arith, traced.listed, issued_while (is_finished moment) (fresh_state past.start past.earlier) past.calls)

  sent_before : (moment : ℕ) → moment ≤ 2 * past.made → take (state_at more moment).issued sent ≡ take (state_at past moment).issued past.sent
  sent_before moment before = ap (λ (s : State). take s.issued sent) (state_before moment before) ∙ front (state_at past moment).issued (issued_by moment)

  answered_before : (moment : ℕ) → moment ≤ 2 * past.made + 1 → take (finished_at more moment).issued sent ≡ take (finished_at past moment).issued past.sent
  answered_before moment before = ap (λ (s : State). take s.issued sent) (finished_before moment before) ∙ front (finished_at past moment).issued (answered_by moment)

  -- nobody was told anything in the middle of the call
  pub answered_middle : take (finished_at more (2 * past.made + 1)).issued sent ≡ past.sent
  answered_middle = answered_before (2 * past.made + 1) (omega arith) ∙ ap (λ (s : State). take s.issued past.sent) (finished_now past traced (2 * past.made + 1) (omega arith)) ∙ all_sent past traced (2 * past.made + 1) (omega arith)

  leaves_before : (moment : ℕ) (left : CrashState) → moment ≤ 2 * past.made → LeavesAt more moment left → LeavesAt past moment left
  leaves_before moment left before leaves = record {
    image = subst (λ (s : State). s.images left.image) (state_before moment before) leaves.image;
    issued = leaves.issued ∙ ap steps_of (sent_before moment before);
    told = leaves.told ∙ ap tolds_of (answered_before moment (omega (arith, before)));
  }

  leaves_still : (moment : ℕ) (left : CrashState) → moment ≤ 2 * past.made → LeavesAt past moment left → LeavesAt more moment left
  leaves_still moment left before leaves = record {
    image = subst (λ (s : State). s.images left.image) (sym (state_before moment before)) leaves.image;
    issued = leaves.issued ∙ sym (ap steps_of (sent_before moment before));
    told = leaves.told ∙ sym (ap tolds_of (answered_before moment (omega (arith, before))));
  }

  pub keeps : (since : ℕ) (left : CrashState) → LeftSince past since left → LeftSince more since left
  keeps since left was = record {
    moment = was.moment;
    later = was.later;
    had = omega (arith, was.had);
    leaves = leaves_still was.moment left was.had was.leaves;
  }

  -- what a crash may leave since then is what it might have left before, or falls into the call, or behind it
  pub since_more : (since : ℕ) (left : CrashState) → LeftSince more since left → LeftSince past since left ⊎ (LeavesAt more (2 * past.made + 1) left ⊎ LeavesAt more (2 * past.made + 2) left)
  since_more since left was = ⊎_elim later earlier (cases_lt (2 * past.made) was.moment)
    where
      earlier : was.moment ≤ 2 * past.made → LeftSince past since left ⊎ (LeavesAt more (2 * past.made + 1) left ⊎ LeavesAt more (2 * past.made + 2) left)
      earlier before = inl (record { moment = was.moment; later = was.later; had = before; leaves = leaves_before was.moment left before was.leaves })

      later : 2 * past.made < was.moment → LeftSince past since left ⊎ (LeavesAt more (2 * past.made + 1) left ⊎ LeavesAt more (2 * past.made + 2) left)
      later past_it = ⊎_elim
          (λ behind. inr (inr (let e : was.moment ≡ 2 * past.made + 2 = omega (arith, behind, was.had) in subst (λ m. LeavesAt more m left) e was.leaves)))
          (λ within. inr (inl (let e : was.moment ≡ 2 * past.made + 1 = omega (arith, within, past_it) in subst (λ m. LeavesAt more m left) e was.leaves)))
          (cases_lt (2 * past.made + 1) was.moment)
