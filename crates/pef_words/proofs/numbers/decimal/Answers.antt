use Rattle.script_text.proofs.WordLemmas.{decimal_above}
use Rattle.pef_words.proofs.numbers.decimal.Goals as goal

pub returns-then-value-greatest : goal.returns-then-value-greatest
returns-then-value-greatest c =
    decimal_above c.args.most c.args.greatest c.loop-digit.value c.loop-digit.digit-index c.args.digits.now c.if-value-greatest.true c.loop-digit-test.true c.loop-digit.invariant.value
