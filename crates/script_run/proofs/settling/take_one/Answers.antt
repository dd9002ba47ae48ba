use Rattle.std.proofs.Common.{inl, [], ◌∷◌, ◌++◌, Ok, Err, arith, sym, subst, ⊎_elim, refl}
use Rattle.std.proofs.lemmas.Result.{err_from_is_err_and}
use Rattle.pef_engine.specs.declared.entry.Entry.TheVariants.{Item}
use Rattle.pef_engine.proofs.Stored.{lawful-append}
use Rattle.script_run.proofs.Shared.{told_none, had_room, item_too_much, err_is, is_err}
use Rattle.script_run.proofs.GoingLemmas.{goes_then, goes_stored, goes_failed, came_item}
use Rattle.script_run.proofs.settling.take_one.Goals as goal

pub returns-in-Err-clause-goes : goal.returns-in-Err-clause-goes
returns-in-Err-clause-goes g c =
    let s = c.in-Err.ensures in
    let of = c.stop_of.ensures in
    let agrees = g.met.M.Machine.agrees c.args.engine.now.machine in
    goes_failed _ c.stop_of.result refl refl (g.met.B.Board.sound c.take.new.board)
    (λ t Z H holds.
    let after = s.taken t Z H holds in (
      after.moments,
      λ tolds told. omega (arith, told_none (g.B.Board.view c.args.board.now).sent (g.B.Board.view c.take.new.board).sent after.sent tolds told),
      λ not. (after.refused refl (λ disk. not (of.disk.1 (err_is disk))), after.sent),
      λ full. record {
        next = Item c.args.item;
        comes = (((agrees.allowed Z H (Item c.args.item) holds.lawful holds.shows).0 c.requires.allowed).0, [], refl);
        too_much = item_too_much g.M.Machine.rules g.M.Machine.view Z H (g.B.Board.view c.args.board.now) c.args.engine.now holds c.args.item agrees (s.full (is_err (of.full.0 full)));
      },
    ))
    of.output s.counts (λ disk. is_err (of.disk.0 disk)) (λ failed. of.disk.1 (err_is failed))
    (λ memory. ⊎_elim (λ full. absurd ((of.memory.0 memory).0 (err_is full))) (λ more. ⊎_elim (λ disk. absurd ((of.memory.0 memory).1 (err_is disk))) (λ takes. takes) more) (s.other refl))

pub returns-in_err-say_taken-clause-goes : goal.returns-in_err-say_taken-clause-goes
returns-in_err-say_taken-clause-goes g c =
    let s = c.in-Ok.ensures in
    let o = c.in_err-say_taken.ensures in
    let agrees = g.met.M.Machine.agrees c.args.engine.now.machine in
    let live = s.live.1 (λ e. cc e) in
    let q = err_from_is_err_and c.from_residual.result c.from_residual.ensures.1 in
    rw (q.1, q.2) (goes_stored _ (Item c.args.item) (Err c.in_err-say_taken.field-0.0) agrees c.requires.allowed s.goes_on
    (λ t Z H holds.
    let after = s.taken t Z H holds in
    let allowed = (agrees.allowed Z H (Item c.args.item) holds.lawful holds.shows).0 c.requires.allowed in (
      came_item _ Z c.args.item after.taken after.sent,
      after.moments,
      o.said Z H (lawful-append g.M.Machine.rules Z H (Item c.args.item) holds.lawful allowed) (subst (λ m. (g.M.Machine.view m).shows Z (H ++ Item c.args.item ∷ [])) (sym c.machine.ensures) after.taken.shows),
      had_room g.M.Machine.rules g.M.Machine.view Z H (g.B.Board.view c.args.board.now) c.args.engine.now holds (Item c.args.item) s.fits
          (λ over. absurd (⊎_elim (λ full. cc full) (λ memory. cc memory.0) (s.over (inl ((agrees.over Z H c.args.item holds.lawful holds.shows).1 over))))),
    ))
    o.output live (s.place live) s.counts (λ e. cc e) o.cause)

pub returns-clause-goes : goal.returns-clause-goes
returns-clause-goes g c =
    let s = c.in-Ok.ensures in
    let o = c.in_ok-say_taken.ensures in
    let agrees = g.met.M.Machine.agrees c.args.engine.now.machine in
    let live = s.live.1 (λ e. cc e) in
    goes_then _ (goes_stored _ (Item c.args.item) (Ok tt) agrees c.requires.allowed s.goes_on
    (λ t Z H holds.
    let after = s.taken t Z H holds in
    let allowed = (agrees.allowed Z H (Item c.args.item) holds.lawful holds.shows).0 c.requires.allowed in (
      came_item _ Z c.args.item after.taken after.sent,
      after.moments,
      o.said Z H (lawful-append g.M.Machine.rules Z H (Item c.args.item) holds.lawful allowed) (subst (λ m. (g.M.Machine.view m).shows Z (H ++ Item c.args.item ∷ [])) (sym c.machine.ensures) after.taken.shows),
      had_room g.M.Machine.rules g.M.Machine.view Z H (g.B.Board.view c.args.board.now) c.args.engine.now holds (Item c.args.item) s.fits
          (λ over. absurd (⊎_elim (λ full. cc full) (λ memory. cc memory.0) (s.over (inl ((agrees.over Z H c.args.item holds.lawful holds.shows).1 over))))),
    ))
    o.output live (s.place live) s.counts (λ e. cc e) o.cause) c.settle_and_say.ensures.goes
