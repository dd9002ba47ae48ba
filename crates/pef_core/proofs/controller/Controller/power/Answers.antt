use Rattle.std.proofs.Common.{◌∙◌, ap}
use Rattle.lan_dest.specs.Kept.{kept}
use Rattle.pef_config.specs.Kept.{tables}
use Rattle.pef_core.specs.View.{shown}
use Rattle.pef_core.proofs.Deeds.{powers}
use Rattle.pef_core.proofs.controller.Controller.power.Goals as goal

pub returns-clause-values : goal.returns-clause-values
returns-clause-values c =
    ap shown c.say_nothing.ensures
    ∙ powers (shown c.args.self.now) (tables c.power.new.self) (kept c.power-2.new.self) c.startup_delay-self.result c.power.ensures.powered c.power-2.ensures c.startup_delay-self.ensures
