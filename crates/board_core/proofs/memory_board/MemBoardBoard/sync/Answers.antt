use Rattle.std.proofs.Common.{arith}
use Rattle.board_core.specs.declared.board.DiskFailed.{DiskFailed}
use Rattle.board_core.proofs.TraceCalls.{synced, syncs_nothing}
use Rattle.board_core.proofs.memory_board.MemBoardBoard.sync.Goals as goal

pub returns-then-count-clause-lasting : goal.returns-then-count-clause-lasting
returns-then-count-clause-lasting c =
    let old = c.args.self.now in
    syncs_nothing old.trace c.pass.new.self old.tells old.disk_faults c.saturating_add-self.result old.issue_faults (omega (arith, c.saturating_add-self.ensures)) c.pass.ensures.nothing {E = DiskFailed} (record {})

pub returns-in-Ok-clause-lasting : goal.returns-in-Ok-clause-lasting
returns-in-Ok-clause-lasting c =
    let old = c.args.self.now in
    synced old.trace c.sync.new.self old.tells old.disk_faults old.disk_faults old.issue_faults (omega arith) {E = DiskFailed} c.in-Ok.ensures.octets c.in-Ok.ensures.kept

pub returns-in-Err-clause-lasting : goal.returns-in-Err-clause-lasting
returns-in-Err-clause-lasting c =
    let old = c.args.self.now in
    syncs_nothing old.trace c.sync.new.self old.tells old.disk_faults c.saturating_add-self-in-Err-2.result old.issue_faults (omega (arith, c.saturating_add-self-in-Err-2.ensures)) c.in-Err.ensures.nothing {E = DiskFailed} (record {})
