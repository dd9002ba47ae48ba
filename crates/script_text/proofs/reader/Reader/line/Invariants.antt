use Rattle.std.proofs.Common.{◌≡◌, ℕ, List, length, ◌-◌}
use Rattle.script_text.specs.Lines.{HasNoEnd}
use Rattle.script_text.specs.Reading.{HasLeft}
use Rattle.script_text.proofs.Read.{IsReading}
use Rattle.script_text.proofs.reader.Reader.line.Given as goal

abbrev pub invariant-octets : goal.invariant-octets
invariant-octets g l = record {
  no_end : HasNoEnd l.line;
  reading : (text : List ℕ) → HasLeft l.fn.self (g.S.Source.left l.fn.source) text → IsReading text l.self (g.S.Source.left l.source) l.line;
  faults : g.S.Source.faults l.source ≡ g.S.Source.faults l.fn.source;
}

abbrev pub decreases-octets : goal.decreases-octets
decreases-octets g l = 1201 - length l.line
