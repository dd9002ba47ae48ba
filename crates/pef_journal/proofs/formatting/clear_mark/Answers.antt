use Rattle.pef_journal.proofs.Formats.{after_clear}
use Rattle.pef_journal.proofs.formatting.clear_mark.Goals as goal

pub returns-clause-any_moment : goal.returns-clause-any_moment
returns-clause-any_moment g c = λ tells.
    let view = g.B.Board.view in
    after_clear (view c.args.board.now) (view c.may_be_marked.new.board) (g.met.B.Board.sound c.args.board.now) (g.met.B.Board.sound c.may_be_marked.new.board) c.requires.lasting c.may_be_marked.ensures.same
    (view c.close_mark.new.board) (λ tells_w. c.in_ok-may_be_marked.ensures.marked tells_w c.if-not-branch.false) c.close_mark.ensures.run tells (c.close_mark.ensures.any_moment tells)
