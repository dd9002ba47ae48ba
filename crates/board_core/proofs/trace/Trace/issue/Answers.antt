use Rattle.std.proofs.Common.{◌≡◌, ◌+◌, ◌-◌, length, ◌∷◌, [], ◌++◌, refl, sym, ◌∙◌, ap}
use Rattle.std.proofs.lemmas.List.{length_push}
use Rattle.board_core.specs.declared.call.Call.{Call}
use Rattle.board_core.specs.declared.call.Effect.TheVariants.{Issued}
use Rattle.board_core.specs.Moments.{State}
use Rattle.board_core.proofs.Pushed.{state-push, still_placed}
use Rattle.board_core.proofs.trace.Trace.issue.Goals as goal

pub invariant_of-self-2 : goal.invariant_of-self-2
invariant_of-self-2 c =
    let old = c.args.self.now in
    let call : Call = record { number = c.begin.new.self.made - 1; effect = Issued } in
    let pushed : c.keep.new.self.kept.items ≡ old.calls.kept.items ++ call ∷ [] = c.keep.ensures.kept ∙ ap (λ l. l ++ call ∷ []) c.begin.ensures.kept in
    let state = state-push old.start.items old.earlier old.calls.kept.items c.keep.new.self.kept.items call pushed in
    record {
      replayed = old.replayed ∙ sym (ap (λ (s : State). s.octets) state);
      listed = ap (λ (s : State). s.issued) state ∙ ap (λ n. n + 1) old.listed ∙ sym (ap length c.in_ok-push.ensures.items ∙ length_push old.sent.items c.args.sent);
      placed = still_placed old.start.items old.earlier old.calls.kept.items c.keep.new.self.kept.items call pushed old.placed refl;
    }
