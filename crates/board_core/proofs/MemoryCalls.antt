-- The calls of a board in memory.
use Rattle.std.proofs.Common.{◌≡◌, ◌⊎◌, inl, inr, ⊎_elim, ℕ, ◌+◌, ◌*◌, ◌<◌, ◌≤◌, Bool, List, [], ◌∷◌, ◌++◌, length, take, refl, sym, ◌∙◌, ap, subst, arith}
use Rattle.std.specs.Prelude.{⊤}
use Rattle.std.proofs.lemmas.Bool.{cases_lt}
use Rattle.std.proofs.lemmas.List.{take_all, take-append-le, length_push, map-append}
use Rattle.board_core.specs.Board.{BoardView, CrashState, LeftNow, LeftInFlight, IsFileCall, Reads, Issues, steps_of, tolds_of}
use Rattle.board_core.specs.declared.step.Sent.{Sent}
use Rattle.board_core.specs.declared.call.Effect.{Effect}
use Rattle.board_core.specs.declared.call.Effect.TheVariants.{Wrote, Spoiled, Synced, Issued}
use Rattle.board_core.specs.Moments.{Past, State, state_of, after, LeavesAt, LeftSince}
use Rattle.board_core.specs.MemoryBoard.{view_of}
use Rattle.board_core.specs.AtMoment.{IsTraced, now_from_leaves, leaves_now, all_sent}
use Rattle.board_core.proofs.OneMore.{with_more, traced_more, answered_middle, keeps, since_more, state_more, state_middle, state_middle_not_yet}

abbrev pub IsFileEffect : Effect → Type 0
IsFileEffect (Wrote place octets) = ⊤
IsFileEffect (Spoiled place count) = ⊤
IsFileEffect Synced = ⊤
IsFileEffect Issued = ⊥

-- a file call issues nothing
same_issued : (s : State) (effect : Effect) → IsFileEffect effect → (after s effect).issued ≡ s.issued
same_issued s (Wrote place octets) is = refl
same_issued s (Spoiled place count) is = refl
same_issued s Synced is = refl
same_issued s Issued is = absurd is

module _ (past : Past) (traced : IsTraced past) (tells : Bool) (octets : List ℕ) (d i : ℕ) where
  abbrev view : BoardView
  view = view_of tells octets d i past

  -- a call of which nothing is kept
  module _ (made d' : ℕ) (counted : past.made ≤ made) (disk : d ≤ d') where
    abbrev passed : Past
    passed = record { start = past.start; earlier = past.earlier; calls = past.calls; sent = past.sent; made = made }

    still : (since : ℕ) (left : CrashState) → LeftSince past since left → LeftSince passed since left
    still since left was = record { moment = was.moment; later = was.later; had = omega (arith, was.had, counted); leaves = record { image = was.leaves.image; issued = was.leaves.issued; told = was.leaves.told } }

    passed_by : (since : ℕ) (left : CrashState) → LeftSince passed since left → LeftSince past since left ⊎ LeftNow (view_of tells octets d' i passed) left
    passed_by since left was = ⊎_elim later earlier (cases_lt (2 * past.made) was.moment)
      where
        leaves : LeavesAt past was.moment left
        leaves = record { image = was.leaves.image; issued = was.leaves.issued; told = was.leaves.told }

        earlier : was.moment ≤ 2 * past.made → LeftSince past since left ⊎ LeftNow (view_of tells octets d' i passed) left
        earlier before = inl (record { moment = was.moment; later = was.later; had = before; leaves = leaves })

        later : 2 * past.made < was.moment → LeftSince past since left ⊎ LeftNow (view_of tells octets d' i passed) left
        later behind =
            let now = now_from_leaves past traced was.moment (omega (arith, behind)) tells octets d i left leaves in
            inr (record { image = now.image; issued = now.issued; told = now.told })

    pub reads : Reads view (view_of tells octets d' i passed)
    reads = record {
      call = record {
        run = record {
          tells = λ t. t;
          goes_on = λ t. t;
          sent = λ t. refl;
          disk_faults = disk;
          issue_faults = refl;
          later = λ t. omega (arith, counted);
          keeps = λ t since left le was. still since left was;
        };
        nothing_else = λ t since left le was. passed_by since left was;
      };
      octets = λ t. refl;
      images = λ t c. (λ now. now, λ now. now);
    }

  -- a file call of which this is kept
  module _ (octets' : List ℕ) (d' : ℕ) (disk : d ≤ d') where
    abbrev changed : Effect → BoardView
    changed effect = view_of tells octets' d' i (with_more past effect past.sent)

    all_told : (effect : Effect) → take (state_of past).issued past.sent ≡ past.sent
    all_told effect = all_sent past traced (2 * past.made) (omega arith)

    -- a crash in the middle of the call leaves what one after it may, but for a sync, which isn't done yet
    middle : (effect : Effect) → IsFileEffect effect → (since : ℕ) (left : CrashState) → since ≤ 2 * past.made → LeavesAt (with_more past effect past.sent) (2 * past.made + 1) left → LeftSince past since left ⊎ LeftNow (changed effect) left
    middle (Wrote place written) is since left le leaves =
        let here = state_middle past traced (Wrote place written) past.sent (λ n short. refl) refl in
        inr (record {
          image = subst (λ (s : State). s.images left.image) (here ∙ sym (state_more past traced (Wrote place written) past.sent (λ n short. refl))) leaves.image;
          issued = leaves.issued ∙ ap steps_of (ap (λ (s : State). take s.issued past.sent) here ∙ all_told (Wrote place written));
          told = leaves.told ∙ ap tolds_of (answered_middle past traced (Wrote place written) past.sent (λ n short. refl));
        })
    middle (Spoiled place count) is since left le leaves =
        let here = state_middle past traced (Spoiled place count) past.sent (λ n short. refl) refl in
        inr (record {
          image = subst (λ (s : State). s.images left.image) (here ∙ sym (state_more past traced (Spoiled place count) past.sent (λ n short. refl))) leaves.image;
          issued = leaves.issued ∙ ap steps_of (ap (λ (s : State). take s.issued past.sent) here ∙ all_told (Spoiled place count));
          told = leaves.told ∙ ap tolds_of (answered_middle past traced (Spoiled place count) past.sent (λ n short. refl));
        })
    middle Synced is since left le leaves =
        let here = state_middle_not_yet past traced Synced past.sent (λ n short. refl) refl in
        let now : LeftNow view left = record {
          image = subst (λ (s : State). s.images left.image) here leaves.image;
          issued = leaves.issued ∙ ap steps_of (ap (λ (s : State). take s.issued past.sent) here ∙ all_told Synced);
          told = leaves.told ∙ ap tolds_of (answered_middle past traced Synced past.sent (λ n short. refl));
        } in
        inl (record { moment = 2 * past.made; later = le; had = omega arith; leaves = leaves_now past traced (2 * past.made) (omega arith) tells octets d i left now })
    middle Issued is since left le leaves = absurd is

    pub file_call : (effect : Effect) → IsFileEffect effect → IsFileCall view (changed effect)
    file_call effect is = record {
      run = record {
        tells = λ t. t;
        goes_on = λ t. t;
        sent = λ t. refl;
        disk_faults = disk;
        issue_faults = refl;
        later = λ t. omega arith;
        keeps = λ t since left le was. keeps past traced effect past.sent (λ n short. refl) since left was;
      };
      nothing_else = λ t since left le was.
          ⊎_elim inl
          (λ more. ⊎_elim (middle effect is since left le)
          (λ behind. inr (now_from_leaves (with_more past effect past.sent) (traced_more past traced effect past.sent (λ n short. refl) (same_issued (state_of past) effect is ∙ traced.listed)) (2 * past.made + 2) (omega arith) tells octets' d' i left behind)) more)
          (since_more past traced effect past.sent (λ n short. refl) since left was);
    }

  -- a step is issued
  module _ (sent : Sent) (i' : ℕ) (issue : i ≤ i') where
    abbrev sent_more : List Sent
    sent_more = past.sent ++ sent ∷ []

    front : (n : ℕ) → n ≤ length past.sent → take n sent_more ≡ take n past.sent
    front n short = take-append-le n past.sent (sent ∷ []) short

    in_flight : (left : CrashState) → LeavesAt (with_more past Issued sent_more) (2 * past.made + 1) left → LeftInFlight view sent.step left
    in_flight left leaves =
        let here = state_middle past traced Issued sent_more front refl in
        record {
          image = subst (λ (s : State). s.images left.image) here leaves.image;
          issued = leaves.issued ∙ ap steps_of (ap (λ (s : State). take s.issued sent_more) here
              ∙ take_all ((state_of past).issued + 1) sent_more (omega (arith, traced.listed, length_push past.sent sent))) ∙ map-append (λ s. s.step) past.sent (sent ∷ []);
          told = leaves.told ∙ ap tolds_of (answered_middle past traced Issued sent_more front);
        }

    since_call : (left : CrashState) → LeavesAt (with_more past Issued sent_more) (2 * past.made + 1) left ⊎ LeavesAt (with_more past Issued sent_more) (2 * past.made + 2) left → LeftSince (with_more past Issued sent_more) (2 * past.made) left
    since_call left (inl within) = record { moment = 2 * past.made + 1; later = omega arith; had = omega arith; leaves = within }
    since_call left (inr behind) = record { moment = 2 * past.made + 2; later = omega arith; had = omega arith; leaves = behind }

    pub issues : Issues sent.step sent.told view (view_of tells octets d i' (with_more past Issued sent_more))
    issues = record {
      tells = λ t. t;
      stops = λ t. inl t;
      octets = λ t. refl;
      images = λ t c. (λ now. subst (λ (s : State). s.images c) (state_more past traced Issued sent_more front) now, λ now. subst (λ (s : State). s.images c) (sym (state_more past traced Issued sent_more front)) now);
      sent = λ t. refl;
      disk_faults = refl;
      issue_faults = issue;
      later = λ t. omega arith;
      nothing_else = λ t since left le was.
          ⊎_elim inl
          (λ more. inr (
            since_call left more,
            ⊎_elim (λ within. inl (in_flight left within))
                (λ behind. inr (now_from_leaves (with_more past Issued sent_more) (traced_more past traced Issued sent_more front (ap (λ n. n + 1) traced.listed ∙ sym (length_push past.sent sent))) (2 * past.made + 2) (omega arith) tells octets d i' left behind)) more,
          ))
          (since_more past traced Issued sent_more front since left was);
      keeps = λ t since left le was. keeps past traced Issued sent_more front since left was;
    }
