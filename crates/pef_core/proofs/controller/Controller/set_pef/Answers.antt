use Rattle.std.proofs.Common.{◌∙◌, ap}
use Rattle.pef_config.specs.Places.{write}
use Rattle.pef_config.specs.Kept.{tables}
use Rattle.pef_core.specs.After.{with_deed}
use Rattle.pef_core.specs.Deeds.{reply_deed}
use Rattle.pef_core.specs.Past.{SetPef}
use Rattle.pef_core.specs.Replies.{answer_to_write}
use Rattle.pef_core.specs.View.{shown}
use Rattle.pef_core.proofs.Deeds.{pef_write_shows}
use Rattle.pef_core.proofs.controller.Controller.set_pef.Goals as goal

pub returns-clause-values : goal.returns-clause-values
returns-clause-values c =
    let self = c.args.self.now in
    let w = write c.args.parameter c.args.payload.now in
    ap shown c.finish.ensures
    ∙ pef_write_shows self c.set-code.result w (tables c.set-code.new.self) c.set-code.ensures.written (λ other. ap tables (c.set-code.ensures.kept other))
    ∙ ap (λ code. with_deed (reply_deed (answer_to_write code (SetPef w))) (shown self)) c.set-code.ensures.code
