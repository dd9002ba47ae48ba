use Rattle.std.proofs.Common.{rules, arith, ◌^◌, ◌<◌, eq-eqb, ne_eqb, eqb-true}
use Rattle.std.proofs.lemmas.Bool.{eqb-false, not-true, not_from_false}
use Rattle.filter_table.proofs.WrongBits.{no_exact_bit_is_wrong, fits_by_another, another_is_right}
use Rattle.filter_table.proofs.data_test.DataTest.fits.Goals as goal

pub returns-else-exact : goal.returns-else-exact
returns-else-exact c =
    let test = c.args.self in
    let octet : c.args.value < 2 ^ 8 = omega arith in
    let exact_octet : test.compare_1 < 2 ^ 8 = search rules in
    let compare_octet : test.compare_2 < 2 ^ 8 = search rules in (
      λ some. fits_by_another test c.args.value octet compare_octet exact_octet c.if-wrong-exact-eq0.true (eqb-false _ _ (not-true _ some)),
      λ fits. not_from_false _ (ne_eqb _ _ (another_is_right test c.args.value octet compare_octet exact_octet fits c.if-exact.false)),
    )

pub returns-else-wrong-exact-eq0 : goal.returns-else-wrong-exact-eq0
returns-else-wrong-exact-eq0 c =
    let test = c.args.self in
    let octet : c.args.value < 2 ^ 8 = omega arith in
    let compare_octet : test.compare_2 < 2 ^ 8 = search rules in (
      λ none. absurd (c.if-wrong-exact-eq0.false (eqb-true _ _ none)),
      λ fits. eq-eqb _ _ (no_exact_bit_is_wrong test c.args.value octet compare_octet fits),
    )
