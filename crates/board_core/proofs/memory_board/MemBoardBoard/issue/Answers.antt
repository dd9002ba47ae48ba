use Rattle.std.proofs.Common.{ap, ◌∙◌, arith}
use Rattle.board_core.specs.Kept.{with_step, past_of}
use Rattle.board_core.specs.declared.step.Sent.{Sent}
use Rattle.board_core.specs.declared.step.Step.{Step}
use Rattle.board_core.proofs.TraceCalls.{issued}
use Rattle.board_core.proofs.memory_board.MemBoardBoard.issue.Goals as goal

pub returns-then-is_listed-2-clause-issued : goal.returns-then-is_listed-2-clause-issued
returns-then-is_listed-2-clause-issued c =
    let old = c.args.self.now in
    let sent : Sent = record { step = c.args.step.now; told = c.if-is_listed.told } in
    let kept = c.in-Ok.ensures.kept ∙ ap (λ (s : Step). with_step (record { step = s; told = c.if-is_listed.told }) (past_of old.trace)) c.copy.ensures in
    issued old.trace c.issue.new.self old.tells old.disk_faults old.issue_faults c.saturating_add-self-then-is_listed-2.result (omega (arith, c.saturating_add-self-then-is_listed-2.ensures)) sent c.in-Ok.ensures.octets kept

pub returns-else-is_listed-2-clause-issued : goal.returns-else-is_listed-2-clause-issued
returns-else-is_listed-2-clause-issued c =
    let old = c.args.self.now in
    let sent : Sent = record { step = c.args.step.now; told = c.if-is_listed.told } in
    let kept = c.in-Ok.ensures.kept ∙ ap (λ (s : Step). with_step (record { step = s; told = c.if-is_listed.told }) (past_of old.trace)) c.copy.ensures in
    issued old.trace c.issue.new.self old.tells old.disk_faults old.issue_faults old.issue_faults (omega arith) sent c.in-Ok.ensures.octets kept
