use Rattle.std.proofs.Common.{◌∙◌, ap}
use Rattle.settings_document.specs.Values.{at_key, number_or}
use Rattle.settings_document.proofs.values.number_or.Goals as goal

pub returns-in-None-clause-number : goal.returns-in-None-clause-number
returns-in-None-clause-number c =
    let found = rw c.in-None.is at c.value_at.ensures in
    ap (λ o. at_key c.args.key (number_or c.args.default c.args.greatest o)) found

pub returns-in-Some-clause-number : goal.returns-in-Some-clause-number
returns-in-Some-clause-number c =
    let found = rw c.in-Some.is at c.value_at.ensures in
    c.ok_or.ensures.value ∙ ap (at_key c.args.key) c.number_in.ensures.number
    ∙ ap (λ o. at_key c.args.key (number_or c.args.default c.args.greatest o)) found
