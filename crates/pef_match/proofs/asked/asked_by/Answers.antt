use Rattle.std.proofs.Common.{ap, ◌∙◌, eqb}
use Rattle.std.specs.Int.{bit_at}
use Rattle.std.specs.Int.Bits.{bit_or}
use Rattle.pef_match.proofs.Bits.{asked_more}
use Rattle.pef_match.proofs.asked.asked_by.Goals as goal

pub loop-filter-preserved : goal.loop-filter-preserved
loop-filter-preserved c = λ n.
    ap (λ a. eqb (bit_at (bit_or c.loop-filter.asked a) n) 1) c.asked_of-asked.ensures
    ∙ asked_more c.args.mask c.args.event.now n c.args.filters.now c.loop-filter.filter-index c.loop-filter.asked c.loop-filter-test.true
    (c.loop-filter.invariant n) c.filter-item.result c.filter-item.is
