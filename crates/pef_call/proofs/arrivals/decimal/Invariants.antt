use Rattle.std.proofs.Common.{◌≡◌, ◌≤◌, drop}
use Rattle.script_text.specs.Forms.{are_digits, value_from}
use Rattle.pef_call.proofs.arrivals.decimal.Given as goal

abbrev pub invariant-loop-digit : goal.invariant-loop-digit
invariant-loop-digit l = record {
  small : l.value ≤ 1000000000;
  digits : are_digits l.digits ≡ are_digits (drop l.digit-index l.digits);
  value : value_from 0 l.digits ≡ value_from l.value (drop l.digit-index l.digits);
}
