use Rattle.std.proofs.Common.{rules, ◌≡◌, ℕ, List, ◌+◌, ◌<◌, length, ◌∙◌, ap, arith, take, drop, ◌∷◌, []}
use Rattle.pef_journal.proofs.Gates.{open_gate}
use Rattle.pef_journal.proofs.gate.read_gate.Goals as goal

pub returns-clause-found : goal.returns-clause-found
returns-clause-found g c = λ tells.
    let file = (g.B.Board.view c.args.board.now).octets in
    let tells_w = c.read_at.ensures.same.call.run.tells tells in
    let n = c.from-length.result in
    let into = c.read_at.new.into in
    let size = c.in_ok-file_length.ensures.length tells_w in
    let read = c.in_ok-read_at.ensures.octets tells ∙ ap (λ (l : List ℕ). take (length into) (drop c.args.place l)) (c.len.ensures.same.octets tells_w) in
    let count : c.min-count.result ≡ 3 = omega (arith, c.min-count.ensures, c.if-left-length.false) in
    let within : c.args.place + 3 + n < length file = omega (arith, c.if-left-length.false, size, c.if-place-file_length.false) in (
      (c.if-length-lt1.false, c.if-length-gt-LONGEST.false, within),
      open_gate file c.args.place n into (drop c.min-count.result (0 ∷ 0 ∷ 0 ∷ [])) read (search (rules, count)) (omega (arith, within)) (c.is_open.ensures.0 c.if-not-is_open.false) (c.from-length.ensures ∙ c.from_le_bytes.ensures) c.if-not-is_open.element_fits.fits,
    )
