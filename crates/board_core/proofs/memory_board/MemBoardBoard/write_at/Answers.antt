use Rattle.std.proofs.Common.{arith}
use Rattle.board_core.specs.declared.board.DiskFailed.{DiskFailed}
use Rattle.board_core.proofs.TraceCalls.{wrote, spoilt, writes_nothing}
use Rattle.board_core.proofs.memory_board.MemBoardBoard.write_at.Goals as goal

pub returns-in-Ok-clause-written : goal.returns-in-Ok-clause-written
returns-in-Ok-clause-written c =
    let old = c.args.self.now in
    spoilt old.trace c.spoil.new.self old.tells old.disk_faults c.saturating_add-self.result old.issue_faults (omega (arith, c.saturating_add-self.ensures)) c.args.place c.args.from.now c.requires.place {E = DiskFailed} (record {}) c.in-Ok.ensures.octets c.in-Ok.ensures.kept

pub returns-in-Err-clause-written : goal.returns-in-Err-clause-written
returns-in-Err-clause-written c =
    let old = c.args.self.now in
    writes_nothing old.trace c.spoil.new.self old.tells old.disk_faults c.saturating_add-self.result old.issue_faults (omega (arith, c.saturating_add-self.ensures)) c.in-Err.ensures.nothing {E = DiskFailed} (record {}) c.args.place c.args.from.now

pub returns-in-Ok-write-clause-written : goal.returns-in-Ok-write-clause-written
returns-in-Ok-write-clause-written c =
    let old = c.args.self.now in
    let kept = c.in-Ok-write.ensures.kept in
    wrote old.trace c.write.new.self old.tells old.disk_faults old.disk_faults old.issue_faults (omega arith) c.args.place c.args.from.now c.requires.place {E = DiskFailed} kept.0 kept.1 kept.2

pub returns-in-Err-write-clause-written : goal.returns-in-Err-write-clause-written
returns-in-Err-write-clause-written c =
    let old = c.args.self.now in
    writes_nothing old.trace c.write.new.self old.tells old.disk_faults c.saturating_add-self-in-Err-write-2.result old.issue_faults (omega (arith, c.saturating_add-self-in-Err-write-2.ensures)) c.in-Err-write.ensures.nothing {E = DiskFailed} (record {}) c.args.place c.args.from.now
