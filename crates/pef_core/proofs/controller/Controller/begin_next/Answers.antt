use Rattle.std.proofs.Common.{◌∙◌, rules, sym}
use Rattle.pef_core.specs.View.{shown}
use Rattle.pef_core.proofs.Beginning.{next_is_begun}
use Rattle.pef_core.proofs.controller.Controller.begin_next.Goals as goal

pub returns-then-may_begin-clause-values : goal.returns-then-may_begin-clause-values
returns-then-may_begin-clause-values c = c.begin_jobs.ensures.values ∙ next_is_begun (shown c.args.self.now) (search rules) (sym c.may_begin.ensures ∙ c.if-may_begin.true)
