use Rattle.std.proofs.Common.{◌≡◌, ◌+◌, ◌-◌, ◌^◌, ◌≤◌, ℕ, List, Some, length}
use Rattle.pef_words.specs.Going.{owed, Paid}
use Rattle.pef_words.specs.Worded.{worded}
use Rattle.pef_words.proofs.program.word_all.Given as goal

-- each turn took an octet or more
abbrev pub invariant-chunks : goal.invariant-chunks
invariant-chunks g l = record {
  reads : g.S.Source.faults l.source ≡ g.S.Source.faults l.fn.source;
  writes : g.K.Sink.faults l.out ≡ g.K.Sink.faults l.fn.out;
  paid : (text : List ℕ) → g.S.Source.left l.fn.source ≡ Some text
      → (rest : List ℕ) × (g.S.Source.left l.source ≡ Some rest) × (l.turns + length rest ≤ length text)
      × Paid (g.K.Sink.written l.fn.out) (g.K.Sink.written l.out) (worded text) (owed l.wording rest);
}

abbrev pub decreases-chunks : goal.decreases-chunks
decreases-chunks g l = 2 ^ 64 - 1 - l.turns
