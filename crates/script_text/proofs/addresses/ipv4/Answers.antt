use Rattle.std.proofs.Common.{sym, ◌∙◌}
use Rattle.script_text.proofs.WordLemmas.{has_more, five_numbers}
use Rattle.script_text.proofs.addresses.ipv4.Goals as goal

pub returns-then-is_some : goal.returns-then-is_some
returns-then-is_some c =
    let two = c.in_ok-rest.field-0.now in
    let three = c.in_ok-rest-2.field-0.now in
    let four = c.in_ok-rest-3.field-0.now in
    five_numbers c.args.word.now c.first_part.result.0.now c.first_part-2.result.0.now c.first_part-3.result.0.now c.first_part-4.result.0.now two three four
    (rw c.in_ok-rest.was at c.first_part.ensures) (rw c.in_ok-rest-2.was at c.first_part-2.ensures) (rw c.in_ok-rest-3.was at c.first_part-3.ensures)
    (has_more 46 c.first_part-4.result.0.now four c.first_part-4.result.1 (sym c.is_some.ensures ∙ c.if-is_some.true) c.first_part-4.ensures)
