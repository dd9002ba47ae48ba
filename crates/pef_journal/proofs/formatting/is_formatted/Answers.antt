use Rattle.std.proofs.Common.{◌≡◌, IsTrue, sym, ◌∙◌, ap, subst, arith, length, take, ◌↔◌}
use Rattle.std.specs.List.{list_any}
use Rattle.pef_journal.specs.Format.{has_head}
use Rattle.pef_journal.specs.Image.{IsFormatted}
use Rattle.pef_journal.proofs.Heads.{too_short, heads_are_kinds}
use Rattle.pef_journal.proofs.formatting.is_formatted.Goals as goal

pub returns-then-file_length-le-SETTINGS-clause-formatted : goal.returns-then-file_length-le-SETTINGS-clause-formatted
returns-then-file_length-le-SETTINGS-clause-formatted g c = λ tells. (
  λ e. absurd (cc e),
  λ is. absurd (too_short (g.B.Board.view c.args.board.now).octets c.args.kinds.now (omega (arith, c.if-file_length-le-SETTINGS.true, c.in_ok-file_length.ensures.length tells)) is),
)

pub returns-clause-formatted : goal.returns-clause-formatted
returns-clause-formatted g c = λ tells.
    let file = (g.B.Board.view c.args.board.now).octets in
    let w = g.B.Board.view c.synced_length.new.board in
    let tells_w = c.read_at.ensures.same.call.run.tells tells in
    let octets = c.in_ok-file_length.ensures.octets tells_w in
    let size : c.in_ok-file_length.file_length ≡ length file = c.in_ok-file_length.ensures.length tells_w in
    let heads : c.read_at.new.into ≡ take 4 file = c.in_ok-read_at.ensures.octets tells ∙ ap (λ k. take k w.octets) c.read_at.auto.into ∙ ap (take 4) octets in
    let test = c.is_one_of.ensures ∙ (λ i. list_any (has_head (heads i) (size i)) c.args.kinds.now) in
    subst (λ b. IsTrue b ↔ IsFormatted c.args.kinds.now file) (sym test) (heads_are_kinds file c.args.kinds.now)
