use Rattle.pef_engine.specs.declared.faults.EngineFault.TheVariants.{DiskFault}
use Rattle.std.proofs.Common.{◌≡◌, inl, inr, refl, ⊎_elim, [], map, sym, ◌∙◌}
use Rattle.std.proofs.lemmas.Result.{err_from_is_err_and}
use Rattle.pef_engine.specs.Engine.{Holds}
use Rattle.pef_engine.proofs.Moments.{settle_moments}
use Rattle.pef_engine.proofs.Stored.{at_end_along, images_stand, nothing_moments}
use Rattle.pef_engine.proofs.engine.Engine.settle.Goals as goal

pub returns-in_default-clause-settled : goal.returns-in_default-clause-settled
returns-in_default-clause-settled g c = λ tells Z H holds.
    let v = g.B.Board.view c.args.board.now in record {
      settled = (sym ((g.met.M.Machine.agrees c.args.self.now.machine).due Z H holds.lawful holds.shows) ∙ sym c.next.ensures ∙ c.in_default.is, holds, refl);
      refused = λ err. absurd (cc err);
      moments = nothing_moments g.M.Machine.rules Z H v [] (g.met.B.Board.sound c.args.board.now) tells (images_stand _ _ _ v c.args.self.now.journal holds.stored);
    }

pub returns-then-not-has_room_for_outcome-clause-settled : goal.returns-then-not-has_room_for_outcome-clause-settled
returns-then-not-has_room_for_outcome-clause-settled g c = λ tells Z H holds.
    let v = g.B.Board.view c.args.board.now in record {
      settled = tt;
      refused = λ err not. (holds, refl);
      moments = nothing_moments g.M.Machine.rules Z H v [] (g.met.B.Board.sound c.args.board.now) tells (images_stand _ _ _ v c.args.self.now.journal holds.stored);
    }

pub returns-in_err-store-clause-settled : goal.returns-in_err-store-clause-settled
returns-in_err-store-clause-settled g c = λ tells Z H holds.
    let rules = g.M.Machine.rules in
    let v = g.B.Board.view c.args.board.now in
    let w = g.B.Board.view c.issue-told.new.self in
    let issues = c.issue-told.ensures.issued in
    let tells_w = c.store.ensures.run.tells tells in
    let due = sym ((g.met.M.Machine.agrees c.args.self.now.machine).due Z H holds.lawful holds.shows) ∙ sym c.next.ensures ∙ c.in-Some.is in
    let held : Holds rules g.M.Machine.view Z H w c.args.self.now = record {
      lawful = holds.lawful;
      shows = holds.shows;
      stored = at_end_along rules.kind Z (map rules.encode H) v w c.args.self.now.journal (issues.octets tells_w) (λ i. (issues.images tells_w i).0) holds.stored;
    } in
    let after = c.store.ensures.stored tells Z H held in
    let q = err_from_is_err_and c.from_residual.result c.from_residual.ensures.1 in
    rw (q.1, q.2) record {
      settled = tt;
      refused = λ err not. absurd (⊎_elim
          (λ full. c.in_err-store.ensures.full.0 full (c.has_room_for_outcome.ensures.0 c.if-not-has_room_for_outcome.false c.issue-told.result))
          (λ disk. not (let is : c.in_err-store.field-0.0 ≡ DiskFault = cc disk in cc is)) (c.in_err-store.ensures.other refl));
      moments = settle_moments rules Z H v w (g.B.Board.view c.store.new.board) c.in-Some.step c.issue-told.result due (g.met.B.Board.sound c.args.board.now) (g.met.B.Board.sound c.issue-told.new.self) (issues.tells tells_w) tells_w issues
          (images_stand _ _ _ v c.args.self.now.journal holds.stored) after.moments;
    }

pub returns-clause-settled : goal.returns-clause-settled
returns-clause-settled g c = λ tells Z H holds.
    let rules = g.M.Machine.rules in
    let v = g.B.Board.view c.args.board.now in
    let w = g.B.Board.view c.issue-told.new.self in
    let issues = c.issue-told.ensures.issued in
    let tells_w = c.store.ensures.run.tells tells in
    let due = sym ((g.met.M.Machine.agrees c.args.self.now.machine).due Z H holds.lawful holds.shows) ∙ sym c.next.ensures ∙ c.in-Some.is in
    let held : Holds rules g.M.Machine.view Z H w c.args.self.now = record {
      lawful = holds.lawful;
      shows = holds.shows;
      stored = at_end_along rules.kind Z (map rules.encode H) v w c.args.self.now.journal (issues.octets tells_w) (λ i. (issues.images tells_w i).0) holds.stored;
    } in
    let after = c.in_ok-store.ensures.stored tells Z H held in record {
      settled = (c.in-Some.step, due, after.sent ∙ issues.sent tells_w, after.stored);
      refused = λ err. absurd (cc err);
      moments = settle_moments rules Z H v w (g.B.Board.view c.store.new.board) c.in-Some.step c.issue-told.result due (g.met.B.Board.sound c.args.board.now) (g.met.B.Board.sound c.issue-told.new.self) (issues.tells tells_w) tells_w issues
          (images_stand _ _ _ v c.args.self.now.journal holds.stored) after.moments;
    }

pub returns-in_default-clause-once : goal.returns-in_default-clause-once
returns-in_default-clause-once g c = λ tells. inl refl

pub returns-then-not-has_room_for_outcome-clause-once : goal.returns-then-not-has_room_for_outcome-clause-once
returns-then-not-has_room_for_outcome-clause-once g c = λ tells. inl refl

pub returns-in_err-store-clause-once : goal.returns-in_err-store-clause-once
returns-in_err-store-clause-once g c = λ tells.
    inr (record { step = c.in-Some.step; told = c.issue-told.result }, c.store.ensures.run.sent tells ∙ c.issue-told.ensures.issued.sent (c.store.ensures.run.tells tells))

pub returns-clause-once : goal.returns-clause-once
returns-clause-once g c = λ tells.
    inr (record { step = c.in-Some.step; told = c.issue-told.result }, c.store.ensures.run.sent tells ∙ c.issue-told.ensures.issued.sent (c.store.ensures.run.tells tells))
