use Rattle.std.proofs.Common.{◌<◌, sym, subst}
use Rattle.pef_core.specs.Left.{left}
use Rattle.pef_core.specs.View.{shown}
use Rattle.pef_core.specs.Histories.{running_step}
use Rattle.pef_core.proofs.LeftSteps.{none_due, may_hear, of_what_runs, outcome_leaves_fewer}
use Rattle.pef_core.proofs.controller.Controller.hear_of_step.Goals as goal

pub returns-in_default : goal.returns-in_default
returns-in_default c =
    let self = c.args.self.now in
    absurd (none_due self.own self.running c.in_default.is (of_what_runs self.replies (running_step self.own self.running) c.requires.none c.requires.due))

pub returns-clause-values : goal.returns-clause-values
returns-clause-values c = c.count.ensures.values

pub returns-clause-fewer : goal.returns-clause-fewer
returns-clause-fewer c =
    let self = c.args.self.now in
    subst (λ v. left v < left (shown self)) (sym c.count.ensures.values)
    (outcome_leaves_fewer c.args.told (shown self) c.in-Some.running c.in-Some.is c.is_open.ensures (may_hear self.own c.args.told self.running c.in-Some.running c.in-Some.is (of_what_runs self.replies (running_step self.own self.running) c.requires.none c.requires.due)))
