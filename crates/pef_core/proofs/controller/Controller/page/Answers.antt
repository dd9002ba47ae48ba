use Rattle.std.proofs.Common.{◌∙◌, ap}
use Rattle.pef_core.specs.Shown.{summary, page}
use Rattle.pef_core.proofs.controller.Controller.page.Goals as goal

pub returns : goal.returns
returns c = λ Z H shows. c.page_of.ensures ∙ ap (λ s. page s c.args.self.now.script) (c.show.ensures Z H shows) ∙ ap (page (summary Z H)) shows.script_is
