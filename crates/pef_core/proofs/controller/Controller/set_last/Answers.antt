use Rattle.std.proofs.Common.{ℕ, Bool, cond, [], ◌∷◌, Some, sym, ◌∙◌, ap}
use Rattle.std.specs.Prelude.{◌&&◌, not}
use Rattle.pef_core.specs.Replies.{Answer, refusal, done_with, runs_job, is_held}
use Rattle.pef_config.specs.Rows.{answer_if}
use Rattle.pef_core.specs.Past.{Marked, SoftwareMarked}
use Rattle.pef_core.specs.Course.{number_of}
use Rattle.pef_core.specs.Values.{Values}
use Rattle.pef_core.specs.declared.note.Note.TheVariants.{Nothing}
use Rattle.pef_core.specs.View.{shown}
use Rattle.pef_core.proofs.Deeds.{refused, passes, marks, marks_software, some_if, none_if}
use Rattle.pef_core.proofs.controller.Controller.set_last.Goals as goal

abbrev moved : Bool → ℕ → Answer
moved bmc id = done_with (cond bmc (Marked id) (SoftwareMarked id))

abbrev if_held : Values → Bool → ℕ → Answer
if_held v bmc id = answer_if (not (is_held v.records id)) (refusal 0xCB) (moved bmc id)

pub returns-then-would_disturb-clause-values : goal.returns-then-would_disturb-clause-values
returns-then-would_disturb-clause-values c =
    let v = shown c.args.self.now in
    ap shown c.finish.ensures
    ∙ refused v (c.args.bmc && runs_job v.now.running) 0xD5 (if_held v c.args.bmc c.args.id) (sym c.would_disturb.ensures ∙ c.if-would_disturb.true)

pub returns-in_default-clause-values : goal.returns-in_default-clause-values
returns-in_default-clause-values c =
    let v = shown c.args.self.now in
    let none = none_if (is_held v.records c.args.id) (number_of v.records c.args.id) (sym c.number_of.ensures ∙ c.in_default.is) in
    ap shown c.finish-in_default.ensures
    ∙ passes v (shown (record c.args.self.now { note = Nothing; reply = Some (0xCB ∷ []) })) (c.args.bmc && runs_job v.now.running) 0xD5 (if_held v c.args.bmc c.args.id) (sym c.would_disturb.ensures ∙ c.if-would_disturb.false)
    (refused v (not (is_held v.records c.args.id)) 0xCB (moved c.args.bmc c.args.id) (ap not none))

pub returns-then-bmc-clause-values : goal.returns-then-bmc-clause-values
returns-then-bmc-clause-values c =
    let v = shown c.args.self.now in
    let number = c.in-Some.number in
    let held = some_if (is_held v.records c.args.id) (number_of v.records c.args.id) number (sym c.number_of.ensures ∙ c.in-Some.is) in
    let x = shown (record c.args.self.now { mark = number; note = Nothing; reply = Some (0x00 ∷ []) }) in
    ap shown c.finish-then-bmc.ensures
    ∙ passes v x (c.args.bmc && runs_job v.now.running) 0xD5 (if_held v c.args.bmc c.args.id) (sym c.would_disturb.ensures ∙ c.if-would_disturb.false)
    (passes v x (not (is_held v.records c.args.id)) 0xCB (moved c.args.bmc c.args.id) (ap not held.0) (marks v c.args.bmc c.args.id number c.if-bmc.true held.1))

pub returns-clause-values : goal.returns-clause-values
returns-clause-values c =
    let v = shown c.args.self.now in
    let number = c.in-Some.number in
    let held = some_if (is_held v.records c.args.id) (number_of v.records c.args.id) number (sym c.number_of.ensures ∙ c.in-Some.is) in
    let x = shown (record c.args.self.now { software = c.args.id; note = Nothing; reply = Some (0x00 ∷ []) }) in
    ap shown c.finish-2.ensures
    ∙ passes v x (c.args.bmc && runs_job v.now.running) 0xD5 (if_held v c.args.bmc c.args.id) (sym c.would_disturb.ensures ∙ c.if-would_disturb.false)
    (passes v x (not (is_held v.records c.args.id)) 0xCB (moved c.args.bmc c.args.id) (ap not held.0) (marks_software v c.args.bmc c.args.id c.if-bmc.false))
