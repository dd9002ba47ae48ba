use Rattle.std.proofs.Common.{sym, ◌∙◌}
use Rattle.script_text.proofs.WordLemmas.{has_more, two_ports}
use Rattle.script_text.proofs.addresses.address.Goals as goal

pub returns-then-is_some : goal.returns-then-is_some
returns-then-is_some c =
    let behind = c.in_ok-port.field-0.now in
    two_ports c.args.word.now c.first_part.result.0.now c.first_part-2.result.0.now behind (rw c.in_ok-port.was at c.first_part.ensures)
    (has_more 58 c.first_part-2.result.0.now behind c.first_part-2.result.1 (sym c.is_some.ensures ∙ c.if-is_some.true) c.first_part-2.ensures)
