use Rattle.std.proofs.Common.{arith}
use Rattle.board_core.proofs.TraceCalls.{passes}
use Rattle.board_core.proofs.memory_board.MemBoardBoard.len.Goals as goal

pub returns-then-count-clause-same : goal.returns-then-count-clause-same
returns-then-count-clause-same c =
    let old = c.args.self.now in
    passes old.trace c.pass.new.self old.tells old.disk_faults c.saturating_add-self.result old.issue_faults (omega (arith, c.saturating_add-self.ensures)) c.pass.ensures.nothing

pub returns-clause-same : goal.returns-clause-same
returns-clause-same c =
    let old = c.args.self.now in
    passes old.trace c.pass.new.self old.tells old.disk_faults old.disk_faults old.issue_faults (omega arith) c.pass.ensures.nothing
