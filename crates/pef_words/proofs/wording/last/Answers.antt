use Rattle.std.proofs.Common.{◌∙◌, ap, sym, ◌++◌}
use Rattle.pef_words.proofs.Texts.{last_with_words, last_without}
use Rattle.pef_words.proofs.wording.last.Goals as goal

pub returns-in-Some : goal.returns-in-Some
returns-in-Some c =
    c.joined-in-Some.ensures ∙ ap (λ l. c.args.held.now ++ l) c.ending.ensures
    ∙ last_with_words c.args.passes c.args.held.now c.in-Some.said c.if-passes.false c.requires (sym c.said_in.ensures ∙ c.in-Some.is)

pub returns-in-None : goal.returns-in-None
returns-in-None c =
    c.joined-in-None.ensures ∙ ap (λ l. c.args.held.now ++ l) c.new-in-None.ensures
    ∙ last_without c.args.passes c.args.held.now c.if-passes.false c.requires (sym c.said_in.ensures ∙ c.in-None.is)
