use Rattle.std.proofs.Common.{ap, ◌∙◌, sym}
use Rattle.std.proofs.Math.Path.{fun_ext}
use Rattle.pef_config.specs.Places.{powered}
use Rattle.pef_config.proofs.Powered.{six_writes, value_powered}
use Rattle.pef_config.proofs.config.Config.power.Goals as goal

pub returns-clause-powered : goal.returns-clause-powered
returns-clause-powered c =
    six_writes _ _ _ _ _ _ _
    (c.set.ensures.written c.set.ensures.code)
    (c.set-2.ensures.written c.set-2.ensures.code)
    (c.set-3.ensures.written c.set-3.ensures.code)
    (c.set-4.ensures.written c.set-4.ensures.code)
    (c.set-5.ensures.written c.set-5.ensures.code)
    (c.set-6.ensures.written c.set-6.ensures.code)

pub returns-clause-values : goal.returns-clause-values
returns-clause-values c initial writes holds place =
    ap (λ held. held place) (returns-clause-powered c ∙ ap powered (fun_ext holds) ∙ sym (value_powered initial writes))
