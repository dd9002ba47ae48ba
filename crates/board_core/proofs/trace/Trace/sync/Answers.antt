use Rattle.std.proofs.Common.{◌≡◌, ◌-◌, ◌∷◌, [], ◌++◌, refl, sym, ◌∙◌, ap}
use Rattle.board_core.specs.declared.call.Call.{Call}
use Rattle.board_core.specs.declared.call.Effect.TheVariants.{Synced}
use Rattle.board_core.specs.Moments.{State}
use Rattle.board_core.proofs.Pushed.{state-push, still_placed}
use Rattle.board_core.proofs.trace.Trace.sync.Goals as goal

pub invariant_of-self-2 : goal.invariant_of-self-2
invariant_of-self-2 c =
    let old = c.args.self.now in
    let call : Call = record { number = c.begin.new.self.made - 1; effect = Synced } in
    let pushed : c.keep.new.self.kept.items ≡ old.calls.kept.items ++ call ∷ [] = c.keep.ensures.kept ∙ ap (λ l. l ++ call ∷ []) c.begin.ensures.kept in
    let state = state-push old.start.items old.earlier old.calls.kept.items c.keep.new.self.kept.items call pushed in
    record {
      replayed = old.replayed ∙ sym (ap (λ (s : State). s.octets) state);
      listed = ap (λ (s : State). s.issued) state ∙ old.listed;
      placed = still_placed old.start.items old.earlier old.calls.kept.items c.keep.new.self.kept.items call pushed old.placed refl;
    }
