use Rattle.std.proofs.Common.{◌≡◌, ◌<◌, ◌^◌, take}
use Rattle.snmp_trap.specs.Grammar.{number_of}
use Rattle.snmp_trap.proofs.number.number_of.Given as goal

abbrev pub invariant-loop-octet : goal.invariant-loop-octet
invariant-loop-octet l = record { value : l.number ≡ number_of (take l.octet-index l.octets); fits : l.number < 256 ^ l.octet-index }
