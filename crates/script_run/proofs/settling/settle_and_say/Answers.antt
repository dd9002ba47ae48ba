use Rattle.std.proofs.Common.{Ok, Err, arith, ap, ◌∙◌, ⊎_elim, refl}
use Rattle.std.proofs.lemmas.Result.{err_from_is_err_and}
use Rattle.board_core.specs.declared.step.Told.TheVariants.{Done}
use Rattle.pef_engine.specs.declared.entry.Entry.TheVariants.{Outcome}
use Rattle.script_run.proofs.Shared.{told_once, outcome_too_much, err_is, is_err}
use Rattle.script_run.proofs.GoingLemmas.{goes_nothing, goes_then, goes_outcome, goes_failed, some_of}
use Rattle.script_run.proofs.settling.settle_and_say.Goals as goal

pub steps-init : goal.steps-init
steps-init g c = goes_nothing _ (g.met.B.Board.sound c.args.board.now) c.requires.live c.requires.place

pub steps-preserved : goal.steps-preserved
steps-preserved g c =
    let live = c.in-Ok-Some.ensures.live.1 (λ e. cc e) in
    let s = c.in-Ok-Some.ensures in
    let o = c.in_ok-say_outcome-in-Ok-Some.ensures in
    goes_then _ c.steps.invariant (goes_outcome _ c.in-Ok-Some.told c.in-Ok-Some.field-0 c.next-step.result (Ok tt) c.in-Ok-Some.field-0-is (g.met.M.Machine.agrees c.steps.engine.machine)
    (c.next-step.ensures ∙ ap (λ m. (g.M.Machine.view m).due) c.machine.ensures) s.none s.goes_on s.settled s.fits o.said o.output live (s.place live) s.counts (λ e. cc e) o.cause)

pub returns-in_err-say_outcome-in-Ok-Some-clause-goes : goal.returns-in_err-say_outcome-in-Ok-Some-clause-goes
returns-in_err-say_outcome-in-Ok-Some-clause-goes g c =
    let live = c.in-Ok-Some.ensures.live.1 (λ e. cc e) in
    let s = c.in-Ok-Some.ensures in
    let o = c.in_err-say_outcome-in-Ok-Some.ensures in
    let q = err_from_is_err_and c.from_residual.result c.from_residual.ensures.1 in
    rw (q.1, q.2) (goes_then _ c.steps.invariant (goes_outcome _ c.in-Ok-Some.told c.in-Ok-Some.field-0 c.next-step.result (Err c.in_err-say_outcome-in-Ok-Some.field-0.0) c.in-Ok-Some.field-0-is (g.met.M.Machine.agrees c.steps.engine.machine)
    (c.next-step.ensures ∙ ap (λ m. (g.M.Machine.view m).due) c.machine.ensures) s.none s.goes_on s.settled s.fits o.said o.output live (s.place live) s.counts (λ e. cc e) o.cause))

pub returns-in-Err-clause-goes : goal.returns-in-Err-clause-goes
returns-in-Err-clause-goes g c =
    let s = c.in-Err.ensures in
    let of = c.stop_of.ensures in
    let agrees = g.met.M.Machine.agrees c.steps.engine.machine in
    goes_then _ c.steps.invariant (goes_failed _ c.stop_of.result refl refl (g.met.B.Board.sound c.settle.new.board)
    (λ t Z H holds.
    let after = s.settled t Z H holds in (
      after.moments,
      λ tolds told. omega (arith, told_once (g.B.Board.view c.steps.board).sent (g.B.Board.view c.settle.new.board).sent (s.once t) tolds told),
      λ not. after.refused refl (λ disk. not (of.disk.1 (err_is disk))),
      λ full.
          let why = s.full.0 (is_err (of.full.0 full)) in record {
            next = Outcome Done;
            comes = some_of (agrees.due Z H holds.lawful holds.shows) why.0;
            too_much = outcome_too_much g.M.Machine.rules g.M.Machine.view Z H (g.B.Board.view c.steps.board) c.steps.engine holds g.met.M.Machine.same_size why.1;
          },
    ))
    of.output s.counts (λ disk. is_err (of.disk.0 disk)) (λ failed. of.disk.1 (err_is failed))
    (λ memory. absurd (⊎_elim (λ full. (of.memory.0 memory).0 (err_is full)) (λ disk. (of.memory.0 memory).1 (err_is disk)) (s.causes refl))))
