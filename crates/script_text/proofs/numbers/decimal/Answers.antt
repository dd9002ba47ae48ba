use Rattle.script_text.proofs.WordLemmas.{decimal_above}
use Rattle.script_text.proofs.numbers.decimal.Goals as goal

pub returns-then-value-greatest-clause-value : goal.returns-then-value-greatest-clause-value
returns-then-value-greatest-clause-value c =
    decimal_above c.args.most c.args.greatest c.loop-digit.value c.loop-digit.digit-index c.args.digits.now c.if-value-greatest.true c.loop-digit-test.true c.loop-digit.invariant.value
