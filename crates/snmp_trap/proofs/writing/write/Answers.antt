use Rattle.std.proofs.Common.{◌≡◌, ◌+◌, ◌≤◌, ◌∷◌, ◌++◌, length, ap, rules, arith}
use Rattle.snmp_trap.specs.Spelling.{fields, length_octets, element}
use Rattle.snmp_trap.proofs.Spelled.{joined}
use Rattle.snmp_trap.proofs.writing.write.Goals as goal

pub returns-clause-written : goal.returns-clause-written
returns-clause-written c =
    let v = fields c.args.trap.now in
    let n = 5 + length c.as_slice-community.result.now + c.element_length.result in
    let same : c.as_slice-community.result.now ≡ v.community = c.as_slice-community.ensures in
    let le : length v.community ≤ 18 = search rules in
    let size : n ≡ 5 + length v.community + c.element_length.result = omega (arith, ap length same) in
    let first : c.put_header.new.out ≡ 48 ∷ length_octets n = search rules in
    let third : c.put_octets.new.out ≡ c.put_number.new.out ++ element 4 v.community = search rules in
    joined v n c.trap_part_length-part.result c.element_length.result c.put_header.new.out c.put_number.new.out c.put_octets.new.out _ _ c.trap_part_length-part.ensures.spelling le c.trap_part_length-part.ensures.length c.element_length.ensures.value size first c.put_number.ensures.appended third c.put_header-2.ensures c.put_trap_part.ensures
