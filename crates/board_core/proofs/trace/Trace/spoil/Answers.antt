use Rattle.std.proofs.Common.{◌≡◌, ◌-◌, ◌≤◌, length, arith, ◌∷◌, [], ◌++◌, sym, ◌∙◌, ap}
use Rattle.std.proofs.lemmas.Bool.{le-leb}
use Rattle.board_core.specs.declared.call.Call.{Call}
use Rattle.board_core.specs.declared.call.Effect.TheVariants.{Spoiled}
use Rattle.board_core.specs.Moments.{State, state_after}
use Rattle.board_core.proofs.Pushed.{state-push, still_placed}
use Rattle.board_core.proofs.trace.Trace.spoil.Goals as goal

pub invariant_of-self-2 : goal.invariant_of-self-2
invariant_of-self-2 c =
    let old = c.args.self.now in
    let call : Call = record { number = c.begin.new.self.made - 1; effect = Spoiled c.min-at.result c.args.count } in
    let pushed : c.keep.new.self.kept.items ≡ old.calls.kept.items ++ call ∷ [] = c.keep.ensures.kept ∙ ap (λ l. l ++ call ∷ []) c.begin.ensures.kept in
    let within : c.min-at.result ≤ length (state_after old.start.items old.earlier old.calls.kept.items).octets = omega (arith, c.min-at.ensures, c.len.ensures, ap length old.replayed) in
    let state = state-push old.start.items old.earlier old.calls.kept.items c.keep.new.self.kept.items call pushed in
    record {
      replayed = old.replayed ∙ sym (ap (λ (s : State). s.octets) state);
      listed = ap (λ (s : State). s.issued) state ∙ old.listed;
      placed = still_placed old.start.items old.earlier old.calls.kept.items c.keep.new.self.kept.items call pushed old.placed (le-leb _ _ within);
    }
