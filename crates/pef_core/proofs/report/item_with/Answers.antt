use Rattle.std.proofs.Common.{ap, sym, ◌∙◌}
use Rattle.std.specs.Prelude.{bytes_eq}
use Rattle.pef_core.proofs.LineWords.{no_more_with}
use Rattle.pef_core.proofs.report.item_with.Goals as goal

pub returns-else-eq-3 : goal.returns-else-eq-3
returns-else-eq-3 c =
    no_more_with c.args.word.now c.args.rest.now
    (sym (c.eq.ensures ∙ ap (bytes_eq c.args.word.now) c.as_slice.ensures) ∙ c.if-eq.false)
    (sym (c.eq-else-eq.ensures ∙ ap (bytes_eq c.args.word.now) c.as_slice-else-eq.ensures) ∙ c.if-eq-2.false)
    (sym (c.eq-else-eq-2.ensures ∙ ap (bytes_eq c.args.word.now) c.as_slice-else-eq-2.ensures) ∙ c.if-eq-3.false)
