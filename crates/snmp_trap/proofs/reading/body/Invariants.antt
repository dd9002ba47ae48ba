use Rattle.std.proofs.Common.{length}
use Rattle.std.specs.Option.{option_map}
use Rattle.snmp_trap.specs.Reading.{list_at}
use Rattle.snmp_trap.proofs.Loop.{Left}
use Rattle.snmp_trap.proofs.reading.body.Given as goal

-- the bindings that are left are read as the whole list is
abbrev pub invariant-loop-rest : goal.invariant-loop-rest
invariant-loop-rest l = Left l.list.at (option_map (λ b. b.now) l.body) l.rest.at l.rest.octets.now (list_at l.list.at l.list.inside.at l.list.inside.octets.now)

abbrev pub decreases-loop-rest : goal.decreases-loop-rest
decreases-loop-rest l = length l.rest.octets.now
