use Rattle.std.proofs.Common.{◌∙◌, sym}
use Rattle.real_devices.proofs.LineLemmas.{whole_write}
use Rattle.real_devices.proofs.lines.is_cut_behind.Goals as goal

pub returns-then-written-all-clause-ends : goal.returns-then-written-all-clause-ends
returns-then-written-all-clause-ends c = λ line before is_line length_is _ _.
    whole_write c.args.cut line before c.args.written is_line (length_is ∙ sym c.if-written-all.true)
