use Rattle.std.proofs.Common.{◌≡◌, ℕ, List, ◌++◌, length}
use Rattle.pef_words.specs.Going.{owed, Paid}
use Rattle.pef_words.proofs.wording.Wording.take_all.Given as goal

-- the octets that are left are owed behind what was written
abbrev pub invariant-octets : goal.invariant-octets
invariant-octets g l = record {
  same : g.K.Sink.faults l.out ≡ g.K.Sink.faults l.fn.out;
  paid : (text : List ℕ) → Paid (g.K.Sink.written l.fn.out) (g.K.Sink.written l.out) (owed l.fn.self (l.octets ++ text)) (owed l.self (l.rest ++ text));
}

abbrev pub decreases-octets : goal.decreases-octets
decreases-octets g l = length l.rest
