use Rattle.std.proofs.Common.{refl, sym, ap, ◌∙◌, Some, None, subst}
use Rattle.script_text.specs.Lines.{behind_line, lines_of}
use Rattle.script_text.specs.Reading.{Finds}
use Rattle.script_text.specs.Script.{head_of, said_of_lines}
use Rattle.script_run.proofs.PlayLemmas.{head_says, long_head}
use Rattle.script_run.proofs.playing.first_line.Goals as goal

pub returns-in-Some-clause-head : goal.returns-in-Some-clause-head
returns-in-Some-clause-head g c = λ text unread.
    let s = g.M.Scripted.scripts in
    let names = subst (Finds text c.read_line.new.reader (g.S.Source.left c.read_line.new.source) c.read_line.new.line) c.in-Ok-Line.field-0-is (c.in-Ok-Line.ensures.found text unread) in
    let is = ap (λ w. head_of w c.read_line.new.line) (sym c.word.ensures) ∙ ap (head_of c.word.result.now) (sym c.as_slice.ensures) ∙ sym c.read_head.ensures.head ∙ c.in-Some.is in
    (names.left, head_says s.word s.item_of text c.read_line.new.line (lines_of (behind_line text)) (Some c.in-Some.head) names.lines is)

pub returns-in-None-clause-head : goal.returns-in-None-clause-head
returns-in-None-clause-head g c = λ text unread.
    let s = g.M.Scripted.scripts in
    let names = subst (Finds text c.read_line.new.reader (g.S.Source.left c.read_line.new.source) c.read_line.new.line) c.in-Ok-Line.field-0-is (c.in-Ok-Line.ensures.found text unread) in
    let is = ap (λ w. head_of w c.read_line.new.line) (sym c.word.ensures) ∙ ap (head_of c.word.result.now) (sym c.as_slice.ensures) ∙ sym c.read_head.ensures.head ∙ c.in-None.is in
    (refl, head_says s.word s.item_of text c.read_line.new.line (lines_of (behind_line text)) None names.lines is)

pub returns-in-Ok-TooLong-clause-head : goal.returns-in-Ok-TooLong-clause-head
returns-in-Ok-TooLong-clause-head g c = λ text unread.
    let s = g.M.Scripted.scripts in
    let long = subst (Finds text c.read_line.new.reader (g.S.Source.left c.read_line.new.source) c.read_line.new.line) c.in-Ok-TooLong.field-0-is (c.in-Ok-TooLong.ensures.found text unread) in
    (refl, head_says s.word s.item_of text long.line long.more None long.lines (long_head s.word long.line long.long))

pub returns-in-Ok-End-clause-head : goal.returns-in-Ok-End-clause-head
returns-in-Ok-End-clause-head g c = λ text unread.
    let s = g.M.Scripted.scripts in
    let none = subst (Finds text c.read_line.new.reader (g.S.Source.left c.read_line.new.source) c.read_line.new.line) c.in-Ok-End.field-0-is (c.in-Ok-End.ensures.found text unread) in
    (refl, ap (said_of_lines s.word s.item_of) none)
