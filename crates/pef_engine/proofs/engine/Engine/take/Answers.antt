use Rattle.std.proofs.Common.{⊎_elim, refl, sym, subst}
use Rattle.std.proofs.lemmas.Result.{err_from_is_err_and}
use Rattle.pef_engine.specs.Engine.{Holds}
use Rattle.pef_engine.specs.CrashFree.{items_of}
use Rattle.pef_engine.proofs.Moments.{take_any}
use Rattle.pef_engine.proofs.Stored.{images_stand, nothing_moments}
use Rattle.pef_engine.proofs.engine.Engine.take.Goals as goal

pub returns-in_err-make_ready-clause-taken : goal.returns-in_err-make_ready-clause-taken
returns-in_err-make_ready-clause-taken g c = λ tells Z H holds.
    let v = g.B.Board.view c.args.board.now in
    let q = err_from_is_err_and c.from_residual.result c.from_residual.ensures.1 in
    rw (q.1, q.2) record {
      taken = tt;
      refused = λ err not. record { lawful = holds.lawful; shows = c.make_ready.ensures.same.shows Z H holds.shows; stored = holds.stored };
      sent = refl;
      moments = nothing_moments g.M.Machine.rules Z H v (items_of c.args.entry.now) (g.met.B.Board.sound c.args.board.now) tells (images_stand _ _ _ v c.args.self.now.journal holds.stored);
    }

pub returns-clause-taken : goal.returns-clause-taken
returns-clause-taken g c = λ tells Z H holds.
    let rules = g.M.Machine.rules in
    let view = g.M.Machine.view in
    let v = g.B.Board.view c.args.board.now in
    let allowed = ((g.met.M.Machine.agrees c.args.self.now.machine).allowed Z H c.args.entry.now holds.lawful holds.shows).0 c.requires.allowed in
    let ready : Holds rules view Z H v (record { machine = c.make_ready.new.machine; journal = c.args.self.now.journal; live = c.args.self.now.live }) = record { lawful = holds.lawful; shows = c.make_ready.ensures.same.shows Z H holds.shows; stored = holds.stored } in
    let after = c.store.ensures.stored tells Z H ready in record {
      taken = after.stored;
      refused = λ err not. ⊎_elim
          (λ full. let same = c.store.ensures.unchanged full in subst (λ b. Holds rules view Z H (g.B.Board.view b) c.store.new.self) (sym same.0) (subst (λ e. Holds rules view Z H v e) (sym same.1) ready))
          (λ disk. absurd (not disk)) (c.store.ensures.other err);
      sent = after.sent;
      moments = take_any rules Z H v (g.B.Board.view c.store.new.board) c.args.entry.now c.requires.item allowed after.moments;
    }
