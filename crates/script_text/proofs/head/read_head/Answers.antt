use Rattle.std.proofs.Common.{sym, ◌∙◌}
use Rattle.script_text.proofs.WordLemmas.{has_more, no_head}
use Rattle.script_text.proofs.head.read_head.Goals as goal

pub returns-then-is_some-clause-head : goal.returns-then-is_some-clause-head
returns-then-is_some-clause-head c =
    let two = c.in_ok-rest.field-0.now in
    let three = c.in_ok-rest-2.field-0.now in
    no_head c.args.word.now c.args.line.now c.first_word.result.0.now c.first_word-2.result.0.now c.first_word-3.result.0.now two three
    (rw c.in_ok-rest.was at c.first_word.ensures) (rw c.in_ok-rest-2.was at c.first_word-2.ensures)
    (has_more 32 c.first_word-3.result.0.now three c.first_word-3.result.1 (sym c.is_some.ensures ∙ c.if-is_some.true) c.first_word-3.ensures)
