use Rattle.script_text.proofs.WordLemmas.{decimal_above}
use Rattle.pef_call.proofs.arrivals.decimal.Goals as goal

pub returns-then-value-gt-GREATEST-clause-value : goal.returns-then-value-gt-GREATEST-clause-value
returns-then-value-gt-GREATEST-clause-value c =
    decimal_above 10 1000000000 c.loop-digit.value c.loop-digit.digit-index c.args.digits.now c.if-value-gt-GREATEST.true c.loop-digit-test.true c.loop-digit.invariant.value
