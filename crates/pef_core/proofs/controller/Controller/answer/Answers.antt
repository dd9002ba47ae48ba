use Rattle.std.proofs.Common.{sym, ◌∙◌, ap}
use Rattle.pef_core.specs.After.{with_deed}
use Rattle.pef_core.specs.Deeds.{reply_deed}
use Rattle.pef_core.specs.Replies.{answer_by}
use Rattle.pef_core.specs.View.{shown}
use Rattle.pef_core.proofs.controller.Controller.answer.Goals as goal

pub returns-in-Ok-clause-values : goal.returns-in-Ok-clause-values
returns-in-Ok-clause-values c =
    let v = shown c.args.self.now in
    c.carry_out.ensures.values ∙ ap (λ r. with_deed (reply_deed (answer_by v r)) v) (sym c.in-Ok.is ∙ c.parse.ensures)
