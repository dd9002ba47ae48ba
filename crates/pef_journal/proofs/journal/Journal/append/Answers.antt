use Rattle.std.proofs.Common.{ℕ, ◌+◌, List, length, refl, ap, arith}
use Rattle.pef_journal.specs.Image.{IsPayload, frame}
use Rattle.pef_journal.proofs.Append.{after_body, after_gate, at_new_end}
use Rattle.pef_journal.proofs.journal.Journal.append.Goals as goal

pub returns-in_err-write_behind-clause-any_moment : goal.returns-in_err-write_behind-clause-any_moment
returns-in_err-write_behind-clause-any_moment g c = λ tells kind Z E at.
    let view = g.B.Board.view in
    let payload : IsPayload c.args.payload.now = (omega (arith, c.requires.payload), c.fits.ensures) in
    after_body kind Z E (view c.args.board.now) c.args.self.now at c.args.payload.now payload (view c.write_behind.new.board) (frame c.args.payload.now) (c.write_behind.ensures.any_moment tells)

pub returns-in_err-open_gate-clause-any_moment : goal.returns-in_err-open_gate-clause-any_moment
returns-in_err-open_gate-clause-any_moment g c = λ tells kind Z E at.
    let view = g.B.Board.view in
    let payload : IsPayload c.args.payload.now = (omega (arith, c.requires.payload), c.fits.ensures) in
    let tells_w = c.open_gate.ensures.run.tells tells in
    let w = c.in_ok-write_behind.ensures in
    after_gate kind Z E (view c.args.board.now) c.args.self.now at c.args.payload.now payload (view c.write_behind.new.board) (frame c.args.payload.now) (w.any_moment tells_w) refl
    w.run tells_w (w.written tells_w) (w.lasting tells_w) (view c.open_gate.new.board) (c.open_gate.ensures.any_moment tells)

pub returns-clause-any_moment : goal.returns-clause-any_moment
returns-clause-any_moment g c = λ tells kind Z E at.
    let view = g.B.Board.view in
    let payload : IsPayload c.args.payload.now = (omega (arith, c.requires.payload), c.fits.ensures) in
    let tells_w = c.open_gate.ensures.run.tells tells in
    let w = c.in_ok-write_behind.ensures in
    after_gate kind Z E (view c.args.board.now) c.args.self.now at c.args.payload.now payload (view c.write_behind.new.board) (frame c.args.payload.now) (w.any_moment tells_w) refl
    w.run tells_w (w.written tells_w) (w.lasting tells_w) (view c.open_gate.new.board) (c.open_gate.ensures.any_moment tells)

pub returns-clause-added : goal.returns-clause-added
returns-clause-added g c = λ tells kind Z E at.
    let view = g.B.Board.view in
    let j = c.args.self.now in
    let payload : IsPayload c.args.payload.now = (omega (arith, c.requires.payload), c.fits.ensures) in
    let tells_w = c.open_gate.ensures.run.tells tells in
    let w = c.in_ok-write_behind.ensures in
    let x = c.in_ok-open_gate.ensures in
    at_new_end kind Z E (view c.args.board.now) j at c.args.payload.now payload (view c.write_behind.new.board) (frame c.args.payload.now) (w.any_moment tells_w) refl
    w.run tells_w (w.written tells_w) (w.lasting tells_w) (view c.open_gate.new.board) (record { place = j.place + (3 + length c.as_slice-length.result.now); ended = j.ended })
    (x.written tells) (x.lasting tells) (ap (λ (l : List ℕ). j.place + (3 + length l)) c.as_slice-length.ensures) c.requires.ended
