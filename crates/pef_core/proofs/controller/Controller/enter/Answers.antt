use Rattle.std.proofs.Common.{◌≡◌, subst, sym}
use Rattle.pef_core.specs.After.{with_deed}
use Rattle.pef_core.specs.Deeds.{deed}
use Rattle.pef_core.specs.View.{shown}
use Rattle.pef_core.proofs.controller.Controller.enter.Goals as goal

pub returns-in-Item-clause-values : goal.returns-in-Item-clause-values
returns-in-Item-clause-values c =
    subst (λ entry. shown c.take.new.self ≡ with_deed (deed (shown c.args.self.now) entry) (shown c.args.self.now)) (sym c.in-Item.is) c.take.ensures.values

pub returns-in-Outcome-clause-values : goal.returns-in-Outcome-clause-values
returns-in-Outcome-clause-values c =
    subst (λ entry. shown c.hear.new.self ≡ with_deed (deed (shown c.args.self.now) entry) (shown c.args.self.now)) (sym c.in-Outcome.is) c.hear.ensures.values
