use Rattle.std.proofs.Common.{◌≡◌, ◌+◌, ℕ, List, Option, Result, length}
use Rattle.board_core.specs.declared.sink.SinkFailed.{SinkFailed}
use Rattle.board_core.specs.Source.{Appends}
use Rattle.trap_console.specs.Listing.{lines_behind, listed}
use Rattle.trap_console.proofs.listing.list_rows.Given as goal

-- what is written of the lines that are left is written of all
abbrev pub invariant-rows : goal.invariant-rows
invariant-rows g l = record {
  counted : l.number + length l.rest ≡ length l.rows;
  same : g.K.Sink.faults l.out ≡ g.K.Sink.faults l.fn.out;
  written : (new : Option (List ℕ)) (result : Result Unit SinkFailed) → Appends (lines_behind l.number l.rest) (g.K.Sink.written l.out) new result
      → Appends (listed l.rows) (g.K.Sink.written l.fn.out) new result;
}

abbrev pub decreases-rows : goal.decreases-rows
decreases-rows g l = length l.rest
