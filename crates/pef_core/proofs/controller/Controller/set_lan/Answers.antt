use Rattle.std.proofs.Common.{◌∙◌, ap}
use Rattle.lan_dest.specs.Kept.{kept}
use Rattle.lan_dest.specs.Parameters.{Write}
use Rattle.pef_core.specs.After.{with_deed}
use Rattle.pef_core.specs.Deeds.{reply_deed}
use Rattle.pef_core.specs.Past.{SetLan}
use Rattle.pef_core.specs.Replies.{answer_to_write}
use Rattle.pef_core.specs.View.{shown}
use Rattle.pef_core.proofs.Deeds.{lan_write_shows}
use Rattle.pef_core.proofs.controller.Controller.set_lan.Goals as goal

pub returns-clause-values : goal.returns-clause-values
returns-clause-values c =
    let self = c.args.self.now in
    let w : Write = record { channel = c.args.channel; parameter = c.args.parameter; payload = c.args.payload.now } in
    ap shown c.finish.ensures
    ∙ lan_write_shows self c.set-code.result w (kept c.set-code.new.self) c.set-code.ensures.accepted (λ other. ap kept (c.set-code.ensures.refused other))
    ∙ ap (λ code. with_deed (reply_deed (answer_to_write code (SetLan w))) (shown self)) c.set-code.ensures.answered
