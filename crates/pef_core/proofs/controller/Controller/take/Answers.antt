use Rattle.std.proofs.Common.{◌≡◌, subst, sym}
use Rattle.pef_core.specs.After.{with_deed}
use Rattle.pef_core.specs.Deeds.{item_deed}
use Rattle.pef_core.specs.View.{shown}
use Rattle.pef_core.proofs.controller.Controller.take.Goals as goal

pub returns-in-Event-clause-values : goal.returns-in-Event-clause-values
returns-in-Event-clause-values c =
    subst (λ item. shown c.log_event.new.self ≡ with_deed (item_deed (shown c.args.self.now) item) (shown c.args.self.now)) (sym c.in-Event.is) c.log_event.ensures.values

pub returns-in-Command-clause-values : goal.returns-in-Command-clause-values
returns-in-Command-clause-values c =
    subst (λ item. shown c.answer.new.self ≡ with_deed (item_deed (shown c.args.self.now) item) (shown c.args.self.now)) (sym c.in-Command.is) c.answer.ensures.values

pub returns-in-Frame-clause-values : goal.returns-in-Frame-clause-values
returns-in-Frame-clause-values c =
    subst (λ item. shown c.frame.new.self ≡ with_deed (item_deed (shown c.args.self.now) item) (shown c.args.self.now)) (sym c.in-Frame.is) c.frame.ensures.values

pub returns-in-Tick-clause-values : goal.returns-in-Tick-clause-values
returns-in-Tick-clause-values c =
    subst (λ item. shown c.tick.new.self ≡ with_deed (item_deed (shown c.args.self.now) item) (shown c.args.self.now)) (sym c.in-Tick.is) c.tick.ensures.values

pub returns-in-Power-clause-values : goal.returns-in-Power-clause-values
returns-in-Power-clause-values c =
    subst (λ item. shown c.power.new.self ≡ with_deed (item_deed (shown c.args.self.now) item) (shown c.args.self.now)) (sym c.in-Power.is) c.power.ensures.values
