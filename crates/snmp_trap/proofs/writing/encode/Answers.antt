use Rattle.std.proofs.Common.{ap, sym, subst, length, arith}
use Rattle.snmp_trap.specs.Grammar.{IsTrap}
use Rattle.snmp_trap.specs.Shortest.{Shortest}
use Rattle.snmp_trap.specs.Spelling.{fields, spelling}
use Rattle.snmp_trap.proofs.Spelled.{shortest, read_again, length-spelling}
use Rattle.snmp_trap.proofs.writing.encode.Goals as goal

pub returns-clause-spelled : goal.returns-clause-spelled
returns-clause-spelled c =
    let v = fields c.args.trap.now in
    subst (Shortest v) (sym c.write.ensures.written) (shortest v c.write.ensures.fits c.write.ensures.community)

pub returns-clause-read_again : goal.returns-clause-read_again
returns-clause-read_again c =
    let v = fields c.args.trap.now in
    subst (λ o. IsTrap o v) (sym c.write.ensures.written) (read_again v (spelling v) c.write.ensures.fits (shortest v c.write.ensures.fits c.write.ensures.community))

pub returns-clause-length : goal.returns-clause-length
returns-clause-length c =
    λ small. omega (arith, ap length c.write.ensures.written, length-spelling (fields c.args.trap.now) c.write.ensures.fits c.write.ensures.community small)
