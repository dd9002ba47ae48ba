use Rattle.std.proofs.Common.{length, sym, ap, arith}
use Rattle.std.proofs.lemmas.List.{length-take-le}
use Rattle.board_core.specs.Moments.{is_effective, fresh_state}
use Rattle.board_core.proofs.FirstCalls.{issued_while}
use Rattle.board_core.proofs.memory_board.MemBoard.crash.Goals as goal

pub slice_bounds-copies-end : goal.slice_bounds-copies-end
slice_bounds-copies-end c =
    let trace = c.args.self.now.trace in
    sym (length-take-le c.in_ok-left.left.issued c.deref.result.now (omega (arith, c.in_ok-left.ensures.issued, issued_while (is_effective c.args.moment) (fresh_state trace.start.items trace.earlier) trace.calls.kept.items, trace.listed, ap length c.deref.ensures.value)))
