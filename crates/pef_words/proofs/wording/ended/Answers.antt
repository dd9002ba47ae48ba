use Rattle.std.proofs.Common.{◌∙◌, ap, ◌++◌, ◌∷◌, []}
use Rattle.pef_words.specs.Worded.{behind_tab}
use Rattle.pef_words.proofs.Texts.{ended_is}
use Rattle.pef_words.proofs.wording.ended.Goals as goal

pub returns-else-passes : goal.returns-else-passes
returns-else-passes c =
    c.joined-else-passes.ensures ∙ ap (λ l. c.args.held.now ++ l) (c.ending-else-passes.ensures ∙ ap (λ s. behind_tab s ++ 10 ∷ []) c.said_in.ensures)
    ∙ ended_is c.args.passes c.args.held.now c.if-passes.false c.requires
