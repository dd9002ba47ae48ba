use Rattle.std.proofs.Common.{◌≡◌, ◌+◌, ℕ, List}
use Rattle.script_run.specs.Lines.{Passes, Unread, input}
use Rattle.script_run.proofs.taking.pass_over.Given as goal

abbrev pub invariant-lines : goal.invariant-lines
invariant-lines g l = record {
  line : l.number + l.left ≡ l.count + 2;
  same : g.S.Source.faults l.source ≡ g.S.Source.faults l.fn.source;
  stands : (text : List ℕ) → Unread (input l.fn.reader (g.S.Source.left l.fn.source) (g.S.Source.faults l.fn.source)) text
      → Passes g.M.Scripted.scripts text l.count (input l.reader (g.S.Source.left l.source) (g.S.Source.faults l.source)) l.left l.number;
}

abbrev pub decreases-lines : goal.decreases-lines
decreases-lines g l = l.left
