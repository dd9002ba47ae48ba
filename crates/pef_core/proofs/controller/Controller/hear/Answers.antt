use Rattle.std.proofs.Common.{◌∙◌, ap}
use Rattle.pef_core.specs.View.{shown}
use Rattle.pef_core.proofs.Deeds.{hears_reply, hears_step}
use Rattle.pef_core.proofs.controller.Controller.hear.Goals as goal

pub returns-then-is_empty-clause-values : goal.returns-then-is_empty-clause-values
returns-then-is_empty-clause-values c = c.hear_of_step.ensures.values ∙ hears_step (shown c.args.self.now) c.args.told (c.is_empty.ensures.0 c.if-is_empty.true)

pub returns-else-is_empty-clause-values : goal.returns-else-is_empty-clause-values
returns-else-is_empty-clause-values c =
    let self = c.args.self.now in
    ap (λ r. shown (record self { replies = r })) c.drop_first.ensures ∙ hears_reply (shown self) c.args.told (λ none. absurd (cc (c.is_empty.ensures.1 none, c.if-is_empty.false)))
