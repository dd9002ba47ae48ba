use Rattle.std.proofs.Common.{[], ◌∷◌, Some, refl, sym, ◌∙◌, ap}
use Rattle.pef_core.specs.Replies.{done_with, runs_alert}
use Rattle.pef_core.specs.Past.{StatusCleared}
use Rattle.pef_core.specs.View.{shown}
use Rattle.pef_core.specs.declared.note.Note.TheVariants.{Nothing}
use Rattle.pef_core.proofs.Deeds.{refused, passes}
use Rattle.pef_core.proofs.controller.Controller.clear_status.Goals as goal

pub returns-then-runs_alert-clause-values : goal.returns-then-runs_alert-clause-values
returns-then-runs_alert-clause-values c =
    let v = shown c.args.self.now in
    ap shown c.finish.ensures ∙ refused v (runs_alert v.now.running) 0xD5 (done_with StatusCleared) (sym c.runs_alert.ensures ∙ c.if-runs_alert.true)

pub returns-clause-values : goal.returns-clause-values
returns-clause-values c =
    let v = shown c.args.self.now in
    ap shown c.finish-2.ensures
    ∙ passes v (shown (record c.args.self.now { status = 0x00; note = Nothing; reply = Some (0x00 ∷ []) })) (runs_alert v.now.running) 0xD5 (done_with StatusCleared) (sym c.runs_alert.ensures ∙ c.if-runs_alert.false) refl
