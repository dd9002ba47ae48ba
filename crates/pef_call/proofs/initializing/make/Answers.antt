use Rattle.std.proofs.Common.{◌≡◌, Err, rules, subst}
use Rattle.std.proofs.lemmas.Bool.{both_ways}
use Rattle.board_core.specs.Board.{LeavesOnly}
use Rattle.pef_journal.specs.Format.{LeavesMaking}
use Rattle.pef_call.specs.Init.{making}
use Rattle.pef_call.specs.declared.init_fault.InitFault.TheVariants.{Settings}
use Rattle.pef_call.proofs.Moments.{made}
use Rattle.pef_call.proofs.initializing.make.Goals as goal

pub returns-in_err-format-clause-moments : goal.returns-in_err-format-clause-moments
returns-in_err-format-clause-moments g c = λ tells.
    let old = g.B.Board.view c.args.board.now in
    let mid = g.B.Board.view c.is_formatted.new.board in
    let new = g.B.Board.view c.format.new.board in
    let tells_mid = c.format.ensures.run.tells tells in
    made (making c.args.kinds.now g.T.SettingsText.file_kind g.T.SettingsText.settings_of) (g.S.Source.left c.args.source.now) old mid c.in_ok-settings.settings (c.is_formatted.ensures.run.sent tells_mid)
    (c.is_formatted.ensures.octets tells_mid) (λ is. both_ways c.in_ok-is_formatted.field-0 c.if-branch.false ((c.in_ok-is_formatted.ensures.formatted tells_mid).1 is)) c.in_ok-settings.ensures.given new
    (c.in_ok-is_formatted.ensures.ok tells_mid)
    (subst (λ k. LeavesOnly mid new (LeavesMaking k c.in_ok-settings.settings mid)) c.kind.ensures
    (subst (λ settings. LeavesOnly mid new (LeavesMaking c.kind.result settings mid)) c.as_slice.ensures (c.format.ensures.any_moment tells)))

pub returns-clause-moments : goal.returns-clause-moments
returns-clause-moments g c = λ tells.
    let old = g.B.Board.view c.args.board.now in
    let mid = g.B.Board.view c.is_formatted.new.board in
    let new = g.B.Board.view c.format.new.board in
    let tells_mid = c.format.ensures.run.tells tells in
    made (making c.args.kinds.now g.T.SettingsText.file_kind g.T.SettingsText.settings_of) (g.S.Source.left c.args.source.now) old mid c.in_ok-settings.settings (c.is_formatted.ensures.run.sent tells_mid)
    (c.is_formatted.ensures.octets tells_mid) (λ is. both_ways c.in_ok-is_formatted.field-0 c.if-branch.false ((c.in_ok-is_formatted.ensures.formatted tells_mid).1 is)) c.in_ok-settings.ensures.given new
    (c.in_ok-is_formatted.ensures.ok tells_mid)
    (subst (λ k. LeavesOnly mid new (LeavesMaking k c.in_ok-settings.settings mid)) c.kind.ensures
    (subst (λ settings. LeavesOnly mid new (LeavesMaking c.kind.result settings mid)) c.as_slice.ensures (c.format.ensures.any_moment tells)))

pub returns-in_err-settings-clause-refused : goal.returns-in_err-settings-clause-refused
returns-in_err-settings-clause-refused g c = λ refusal is.
    let same : c.settings_in.result ≡ Err (Settings refusal) = search (rules, c.in_err-settings.was, c.from_residual-in_err-settings.ensures, is) in
    c.settings_in.ensures.refused refusal same
