use Rattle.std.proofs.Common.{refl, sym, ap, ◌∙◌, ◌≤◌, length, subst}
use Rattle.script_text.specs.Lines.{lines_of}
use Rattle.script_text.specs.Script.{given}
use Rattle.script_text.specs.Reading.{Finds}
use Rattle.script_run.specs.Lines.{LineGives, input}
use Rattle.script_run.proofs.LineLemmas.{text_gives, too_long_bad, no_line}
use Rattle.script_run.proofs.taking.next_item.Goals as goal

pub returns-in-Ok-Line-clause-given : goal.returns-in-Ok-Line-clause-given
returns-in-Ok-Line-clause-given g c = λ text unread.
    let names = subst (Finds text c.read_line.new.reader (g.S.Source.left c.read_line.new.source) c.read_line.new.line) c.in-Ok-Line.field-0-is (c.in-Ok-Line.ensures.found text unread) in
    let gives = subst (λ l. LineGives g.M.Scripted.scripts.item_of l c.args.left c.args.number c.item_at.result) c.as_slice.ensures (c.item_at.ensures.given (subst (λ l. length l ≤ 1200) (sym c.as_slice.ensures) names.fits)) in
    text_gives g.M.Scripted.scripts.item_of text c.read_line.new.line c.args.left c.args.number (input c.read_line.new.reader (g.S.Source.left c.read_line.new.source) (g.S.Source.faults c.read_line.new.source)) c.item_at.result names gives

pub returns-in-Ok-TooLong-clause-given : goal.returns-in-Ok-TooLong-clause-given
returns-in-Ok-TooLong-clause-given g c = λ text unread.
    let long = subst (Finds text c.read_line.new.reader (g.S.Source.left c.read_line.new.source) c.read_line.new.line) c.in-Ok-TooLong.field-0-is (c.in-Ok-TooLong.ensures.found text unread) in
    (refl, ap (λ l. given g.M.Scripted.scripts.item_of l c.args.left c.args.number) long.lines ∙ too_long_bad g.M.Scripted.scripts.item_of long.line long.more c.args.left c.args.number long.long)

pub returns-in-Ok-End-clause-given : goal.returns-in-Ok-End-clause-given
returns-in-Ok-End-clause-given g c = λ text unread.
    let none = subst (Finds text c.read_line.new.reader (g.S.Source.left c.read_line.new.source) c.read_line.new.line) c.in-Ok-End.field-0-is (c.in-Ok-End.ensures.found text unread) in
    (refl, no_line g.M.Scripted.scripts.item_of (lines_of text) c.args.left c.args.number none)
