use Rattle.std.proofs.Common.{◌≡◌, ◌+◌, ◌-◌, ◌≤◌, length, min, replicate, arith, ◌∷◌, [], ◌++◌, sym, ◌∙◌, ap}
use Rattle.std.proofs.lemmas.Bool.{le-leb}
use Rattle.board_core.specs.declared.call.Call.{Call}
use Rattle.board_core.specs.declared.call.Effect.TheVariants.{Wrote}
use Rattle.board_core.specs.File.{put_at}
use Rattle.board_core.specs.Moments.{State, state_after}
use Rattle.board_core.proofs.Pushed.{state-push, still_placed}
use Rattle.board_core.proofs.trace.Trace.write.Goals as goal

pub invariant_of-self-2 : goal.invariant_of-self-2
invariant_of-self-2 c =
    let old = c.args.self.now in
    let call : Call = record { number = c.begin.new.self.made - 1; effect = Wrote c.min-at.result c.in_ok-written.written } in
    let pushed : c.keep.new.self.kept.items ≡ old.calls.kept.items ++ call ∷ [] = c.keep.ensures.kept ∙ ap (λ l. l ++ call ∷ []) c.begin.ensures.kept in
    let written : c.deref.result.now ≡ c.in_ok-written.written.items = c.deref.ensures.value in
    let within : c.min-at.result ≤ length (state_after old.start.items old.earlier old.calls.kept.items).octets = omega (arith, c.min-at.ensures, c.len.ensures, ap length old.replayed) in
    let state = state-push old.start.items old.earlier old.calls.kept.items c.keep.new.self.kept.items call pushed in
    record {
      replayed = c.in_ok-put.ensures.put ∙ (λ i. put_at c.min-at.result (written i) (old.replayed i)) ∙ sym (ap (λ (s : State). s.octets) state);
      listed = ap (λ (s : State). s.issued) state ∙ old.listed;
      placed = still_placed old.start.items old.earlier old.calls.kept.items c.keep.new.self.kept.items call pushed old.placed (le-leb _ _ within);
    }

pub returns-clause-kept : goal.returns-clause-kept
returns-clause-kept c =
    let old = c.args.self.now in
    let written = c.in_ok-written.written in
    let at : c.min-at.result ≡ min c.args.place (length old.octets.items) = omega (arith, c.min-at.ensures, c.len.ensures) in
    let gap : c.args.place - c.min-at.result ≡ c.args.place - length old.octets.items = omega (arith, at) in
    let number : c.begin.new.self.made - 1 ≡ old.calls.made = omega (arith, c.in_ok-begin.ensures.counted) in
    let calls : c.keep.new.self.kept.items ≡ old.calls.kept.items ++ record { number = old.calls.made; effect = Wrote (min c.args.place (length old.octets.items)) written } ∷ [] =
    c.keep.ensures.kept ∙ (λ i. c.begin.ensures.kept i ++ record { number = number i; effect = Wrote (at i) written } ∷ []) in
    let made : c.keep.new.self.made ≡ old.calls.made + 1 = c.keep.ensures.made ∙ c.in_ok-begin.ensures.counted in (
      written,
      c.in_ok-written.ensures ∙ ap (λ n. replicate n 0 ++ c.args.from.now) gap,
      λ i. record { start = old.start.items; earlier = old.earlier; calls = calls i; sent = old.sent.items; made = made i },
    )
