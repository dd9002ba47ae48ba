-- Runs on boards in memory.
use Rattle.std.proofs.Common.{◌≡◌, ℕ, ◌+◌, ◌≤◌, List, [], ◌∷◌, ◌++◌, length, drop, Option, Some, refl, sym, ◌∙◌, ap, subst, arith, ⊎_elim}
use Rattle.std.specs.Prelude.{IsTrue, ◌⊎◌}
use Rattle.std.proofs.lemmas.List.{append-nil}
use Rattle.board_core.specs.declared.memory_board.MemBoard.{MemBoard}
use Rattle.board_core.specs.declared.step.Sent.{Sent}
use Rattle.board_core.specs.declared.step.Step.{Step}
use Rattle.board_core.specs.Causes.{Rose}
use Rattle.board_core.specs.Board.{CrashState, Only, steps_of}
use Rattle.board_core.specs.Moments.{sent_at}
use Rattle.board_core.specs.Kept.{past_of}
use Rattle.board_core.specs.MemoryBoard.{memory_view}
use Rattle.board_core.specs.Crash.{IsMade, IsCrash, left_at}
use Rattle.pef_engine.specs.declared.entry.Entry.{Entry}
use Rattle.pef_engine.specs.Rules.{Rules, Lawful, Stands}
use Rattle.pef_engine.specs.CrashFree.{LeavesPrefix}
use Rattle.pef_engine.specs.Lives.{Call, AreCalls, IsRepeating, steps_of_calls}
use Rattle.script_run.specs.Items.{items_of_text}
use Rattle.script_run.specs.Going.{Kind}
use Rattle.script_run.specs.Top.{RunCall, outside, ReturnLeft}
use Rattle.script_run.specs.InMemory.{KeepsInMemory, Repeats}

still_tells : {tells : Type 0} (before now : ℕ) → before ≡ 0 → now ≡ 0 → tells ⊎ Rose before now → tells
still_tells before now was is goes = ⊎_elim (λ t. t) (λ rose. absurd (omega (arith, was, is, rose))) goes

module _ {I M : Type 0} (k : Kind I M) where
  pub keeps_in_memory : {file text : List ℕ} {steps : List Sent} {failing : List ℕ} (first last : MemBoard) {unread unread' written written' : Option (List ℕ)} {reads reads' writes writes' status : ℕ}
      → IsMade file steps failing [] first → unread ≡ Some text
      → RunCall k (outside (memory_view first) unread reads written writes) (outside (memory_view last) unread' reads' written' writes') status
      → (memory_view last).issue_faults ≡ 0 → (Z : List ℕ) (H : List (Entry I)) → Lawful k.rules Z H → Stands k.rules Z H file → KeepsInMemory k.rules Z H steps (items_of_text k.scripts text H) last
  keeps_in_memory {text = text} first last made left call none Z H lawful stands =
      let tells = still_tells (memory_view first).issue_faults (memory_view last).issue_faults made.issue_faults none (call.goes_on made.tells) in
      let keeps = (call.answers tells Z H text lawful (subst (Stands k.rules Z H) (sym made.octets) stands) left).headline in record {
        each = λ c since. subst (λ s. LeavesPrefix k.rules Z H s (items_of_text k.scripts text H) c) made.sent
            (keeps.whole_call (λ d image. made.lasting d image ∙ sym made.octets) c (subst (λ t. (memory_view last).left_since t c) (sym made.moment) since));
        returned = subst (λ s. LeavesPrefix k.rules Z H s (items_of_text k.scripts text H) (ReturnLeft (memory_view last))) made.sent keeps.returned;
      }

  drop-steps : (sent : List Sent) (more : List Step) → drop (length sent) (steps_of sent ++ more) ≡ more
  drop-steps [] more = refl
  drop-steps (s ∷ sent) more = drop-steps sent more

  issued_twice : (sent : List Sent) (all more : List Step) → all ≡ steps_of sent ++ more → steps_of sent ++ (drop (length sent) all ++ []) ≡ all
  issued_twice sent all more is = ap (λ l. steps_of sent ++ (drop (length sent) l ++ [])) is ∙ ap (λ l. steps_of sent ++ (l ++ [])) (drop-steps sent more) ∙ ap (λ l. steps_of sent ++ l) (append-nil more) ∙ sym is

  pub repeats_twice : {text : List ℕ} (before first last : MemBoard) {moment torn : ℕ} {unread unread' written written' : Option (List ℕ)} {reads reads' writes writes' status : ℕ}
      → ((Z : List ℕ) (calls : List (Call I)) (G : List (Entry I)) → AreCalls k.rules Z [] calls G → IsRepeating k.rules Z (length calls) (steps_of_calls calls) G)
      → ((Z : List ℕ) (calls : List (Call I)) (G : List (Entry I)) → AreCalls k.rules Z [] calls G → Lawful k.rules Z G)
      → IsCrash before moment torn first → unread ≡ Some text
      → RunCall k (outside (memory_view first) unread reads written writes) (outside (memory_view last) unread' reads' written' writes') status
      → (memory_view last).issue_faults ≡ 0 → (Z : List ℕ) (items : List I) → KeepsInMemory k.rules Z [] [] items before → Repeats k.rules Z 2 last
  repeats_twice {text = text} before first last {moment = moment} steps lawful crash left call none Z items kept =
      let cut = left_at (past_of before.trace) moment crash.image in
      let since = crash.left_since in
      let one = kept.each cut (record { moment = since.moment; later = omega arith; had = since.had; leaves = since.leaves }) in
      let sent = sent_at (past_of before.trace) moment in
      let two = (keeps_in_memory first last crash.made left call none Z one.entries one.lawful one.stands).returned in
      let first_call : Call I = record { sent = []; items = items; left = cut } in
      let next_call : Call I = record { sent = sent; items = items_of_text k.scripts text one.entries; left = ReturnLeft (memory_view last) } in
      let are : AreCalls k.rules Z [] (first_call ∷ next_call ∷ []) (one.entries ++ two.entries) = (one, (two, refl)) in record {
        history = one.entries ++ two.entries;
        lawful = lawful Z (first_call ∷ next_call ∷ []) (one.entries ++ two.entries) are;
        stands = two.stands;
        steps = subst (λ s. IsRepeating k.rules Z 2 s (one.entries ++ two.entries)) (issued_twice sent (steps_of (memory_view last).sent) two.steps two.issued) (steps Z (first_call ∷ next_call ∷ []) (one.entries ++ two.entries) are);
      }
