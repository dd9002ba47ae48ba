use Rattle.std.proofs.Common.{◌∙◌, ap, sym}
use Rattle.frame_answers.specs.Answers.{answered}
use Rattle.job_course.specs.declared.counts.Counts.TheVariants.{Ack}
use Rattle.pef_core.specs.declared.controller.Controller.{Controller}
use Rattle.pef_core.specs.View.{shown}
use Rattle.pef_core.proofs.Deeds.{framed, frames, with_count}
use Rattle.pef_core.proofs.controller.Controller.frame.Goals as goal

pub returns-in-Some-clause-values : goal.returns-in-Some-clause-values
returns-in-Some-clause-values c =
    let a = c.answered-answered in
    let v = shown c.args.self.now in
    c.count.ensures.values
    ∙ ap {A = Controller} (with_count (Ack c.in-Some.ack)) c.say_nothing.ensures
    ∙ ap (λ o. framed a.result.replies o v) (sym c.in-Some.is)
    ∙ frames v a.result.replies a.result.ack (answered c.args.from c.args.octets.now)
    (a.ensures.replies ∙ ap (λ o. (answered c.args.from o).replies) c.as_slice.ensures) (a.ensures.ack ∙ ap (λ o. (answered c.args.from o).ack) c.as_slice.ensures)

pub returns-in_default-clause-values : goal.returns-in_default-clause-values
returns-in_default-clause-values c =
    let a = c.answered-answered in
    let v = shown c.args.self.now in
    ap shown c.say_nothing.ensures
    ∙ ap (λ o. framed a.result.replies o v) (sym c.in_default.is)
    ∙ frames v a.result.replies a.result.ack (answered c.args.from c.args.octets.now)
    (a.ensures.replies ∙ ap (λ o. (answered c.args.from o).replies) c.as_slice.ensures) (a.ensures.ack ∙ ap (λ o. (answered c.args.from o).ack) c.as_slice.ensures)
