use Rattle.std.proofs.Common.{◌≡◌, ◌∷◌, sym, ◌∙◌, ap}
use Rattle.script_text.specs.Forms.{words_of}
use Rattle.script_text.proofs.WordLemmas.{has_more}
use Rattle.trap_console.specs.Report.{item_of_words}
use Rattle.trap_console.proofs.report.datagram_of.Goals as goal

-- a line of four words or more is no item
pub returns-then-is_some : goal.returns-then-is_some
returns-then-is_some c =
    let two = c.in_ok-rest.field-0.now in
    let three = c.in_ok-rest-2.field-0.now in
    let first = c.first_word.result.0.now in
    let second = c.first_word-2.result.0.now in
    let more = has_more 32 c.first_word-3.result.0.now three c.first_word-3.result.1 (sym c.is_some.ensures ∙ c.if-is_some.true) c.first_word-3.ensures in
    let front : words_of c.args.line.now ≡ first ∷ words_of two = rw c.in_ok-rest.was at c.first_word.ensures in
    let middle : words_of two ≡ second ∷ words_of three = rw c.in_ok-rest-2.was at c.first_word-2.ensures in
    sym (ap item_of_words (front ∙ ap (λ w. first ∷ w) (middle ∙ ap (λ w. second ∷ w) more.parts)))
