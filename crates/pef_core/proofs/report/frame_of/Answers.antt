use Rattle.std.proofs.Common.{◌≡◌, ◌∷◌, sym, ◌∙◌, ap}
use Rattle.script_text.specs.Forms.{words_of}
use Rattle.script_text.proofs.WordLemmas.{has_more}
use Rattle.pef_core.specs.Report.{frame_of}
use Rattle.pef_core.proofs.report.frame_of.Goals as goal

-- three words or more behind `frame` are no frame
pub returns-then-is_some : goal.returns-then-is_some
returns-then-is_some c =
    let from = c.first_word.result.0.now in
    let one = c.in_ok-rest.field-0.now in
    let more = has_more 32 c.first_word-2.result.0.now one c.first_word-2.result.1 (sym c.is_some.ensures ∙ c.if-is_some.true) c.first_word-2.ensures in
    let words : words_of c.args.words.now ≡ from ∷ words_of one = rw c.in_ok-rest.was at c.first_word.ensures in
    sym (ap frame_of (words ∙ ap (λ w. from ∷ w) more.parts))
