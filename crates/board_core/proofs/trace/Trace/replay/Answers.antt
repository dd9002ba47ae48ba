use Rattle.std.proofs.Common.{◌≡◌, ◌<◌, ◌≤◌, true, length, take, get_or, vec_len, [], sym, ◌∙◌, ap, subst, arith}
use Rattle.std.specs.List.{prefix_len}
use Rattle.std.proofs.lemmas.List.Sums.{prefix_len_is}
use Rattle.board_core.specs.declared.call.Call.{Call}
use Rattle.board_core.specs.declared.call.Effect.TheVariants.{Synced}
use Rattle.board_core.specs.Moments.{is_placed, is_effective, fresh_state}
use Rattle.board_core.specs.Leaving.{IsLeft}
use Rattle.board_core.proofs.FirstCalls.{issued_take}
use Rattle.board_core.proofs.Pushed.{placed_here}
use Rattle.board_core.proofs.trace.Trace.replay.Goals as goal
use Rattle.board_core.proofs.trace.Trace.replay.Goals.{else-loop-call-test, then-loop-call-test+then-not-is_effective}

pub loop-call-init : goal.loop-call-init
loop-call-init c = record {
  left = subst (λ content. IsLeft c.args.torn content c.args.self.now.earlier [] c.in_ok-left.left) c.deref.ensures.value (c.in_ok-left.ensures c.args.torn);
  effective = λ k d lt. absurd (omega (arith, lt));
}

pub go_on-requires-clause-placed : goal.go_on-requires-clause-placed
go_on-requires-clause-placed c =
    let trace = c.args.self.now in
    let calls = trace.calls.kept.items in
    let call = c.call-item.result in
    let index = c.loop-call.call-index in
    let all = c.deref-call-items.ensures.value in
    let is : call ≡ get_or calls index call = c.call-item.is ∙ ap (λ l. get_or l index call) all in
    let here : index < length calls = omega (arith, c.loop-call-test.true, ap length all) in
    let size : length c.loop-call.left.file.items ≡ vec_len c.loop-call.left.file = omega (arith, c.loop-call.left.file.ok.0) in
    subst (λ n. is_placed n call.effect ≡ true) (sym (ap length c.loop-call.invariant.left.file) ∙ size) (placed_here trace.start.items trace.earlier calls index call here is trace.placed)

pub go_on-requires-clause-room : goal.go_on-requires-clause-room
go_on-requires-clause-room c =
    let trace = c.args.self.now in
    omega (arith, c.loop-call.invariant.left.issued, issued_take (fresh_state trace.start.items trace.earlier) c.loop-call.call-index trace.calls.kept.items, trace.listed, trace.sent.ok.0, trace.sent.small)

pub returns : goal.returns
returns c =
    let trace = c.args.self.now in
    let calls = trace.calls.kept.items in
    let index = c.loop-call.call-index in
    let all = c.deref-call-items.ensures.value in
    let short : index ≤ length calls = omega (arith, c.loop-call.auto.call-index-end, ap length all) in
    let p = is_effective c.args.moment in
    let none : Call = record { number = 0; effect = Synced } in
    let stops : prefix_len p calls ≡ index =
    elim c.loop-call-test.branch [
      | else-loop-call-test w ↦ prefix_len_is p calls index none short (λ k lt. c.loop-call.invariant.effective k none lt) (λ lt. absurd (omega (arith, lt, w.loop-call-test.false, ap length all)))
      | then-loop-call-test+then-not-is_effective w ↦
          let call = w.call-item.result in
          let is : call ≡ get_or calls index call = w.call-item.is ∙ ap (λ l. get_or l index call) all in
          prefix_len_is p calls index call short (λ k lt. c.loop-call.invariant.effective k call lt) (λ lt. ap p (sym is) ∙ sym w.is_effective.ensures ∙ w.if-not-is_effective.true)
    ] in
    subst (λ n. IsLeft c.args.torn trace.start.items trace.earlier (take n calls) c.loop-call.left) (sym stops) c.loop-call.invariant.left
