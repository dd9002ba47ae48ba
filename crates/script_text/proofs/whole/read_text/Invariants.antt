use Rattle.std.proofs.Common.{◌≡◌, ◌≤◌, ◌-◌, ℕ, List, ◌++◌, Some, length}
use Rattle.script_text.proofs.whole.read_text.Given as goal

abbrev pub invariant-chunks : goal.invariant-chunks
invariant-chunks g l = record {
  fits : length l.text.items ≤ 65536;
  reading : (text : List ℕ) → g.S.Source.left l.fn.source ≡ Some text → (rest : List ℕ) × (g.S.Source.left l.source ≡ Some rest) × (text ≡ l.text.items ++ rest);
  faults : g.S.Source.faults l.source ≡ g.S.Source.faults l.fn.source;
}

abbrev pub decreases-chunks : goal.decreases-chunks
decreases-chunks g l = 65536 - length l.text.items
