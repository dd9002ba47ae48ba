use Rattle.std.proofs.Common.{◌∷◌, [], ◌∙◌, ap}
use Rattle.pef_core.specs.View.{shown}
use Rattle.pef_core.proofs.Deeds.{arms}
use Rattle.pef_core.proofs.controller.Controller.arm.Goals as goal

pub returns-clause-values : goal.returns-clause-values
returns-clause-values c =
    let self = c.args.self.now in
    ap shown c.keep.ensures
    ∙ arms (shown self) c.args.octet c.armed-self.result c.done_with.result c.armed-self.ensures (c.done_with.ensures ∙ ap (λ o. 0x00 ∷ o ∷ []) c.timer_octet.ensures)
