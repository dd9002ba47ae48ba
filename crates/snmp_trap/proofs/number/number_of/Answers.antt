use Rattle.std.proofs.Common.{arith}
use Rattle.snmp_trap.proofs.Numbers.{small_power, one_more, one_more_fits}
use Rattle.snmp_trap.proofs.number.number_of.Goals as goal

pub overflow_mul-number : goal.overflow_mul-number
overflow_mul-number c = omega (arith, small_power c.loop-octet.octet-index (omega arith))

pub loop-octet-preserved : goal.loop-octet-preserved
loop-octet-preserved c =
    let octets = c.args.octets.now in
    let i = c.loop-octet.octet-index in
    record {
      value = one_more octets i c.loop-octet.number c.from.result c.loop-octet-test.true c.loop-octet.invariant.value c.from.ensures;
      fits = one_more_fits i c.loop-octet.number c.from.result c.loop-octet.invariant.fits (omega (arith, c.type_inv.octets i));
    }
