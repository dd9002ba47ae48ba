use Rattle.std.proofs.Common.{◌≡◌, length, ap, rules, arith}
use Rattle.snmp_trap.specs.Shortest.{HasSpelling}
use Rattle.snmp_trap.specs.Spelling.{fields}
use Rattle.snmp_trap.proofs.Spelled.{length-trap_part}
use Rattle.snmp_trap.proofs.writing.trap_part_length.Goals as goal

pub returns-clause-length : goal.returns-clause-length
returns-clause-length c =
    let fits : HasSpelling (fields c.args.trap.now) = search rules in
    let body : length c.as_slice.result.now ≡ length c.args.trap.now.body = ap length c.as_slice.ensures in
    omega (arith, length-trap_part (fields c.args.trap.now) fits, c.number_length.ensures, c.number_length-2.ensures)
