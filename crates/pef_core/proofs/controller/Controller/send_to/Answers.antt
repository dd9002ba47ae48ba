use Rattle.std.proofs.Common.{Some, None, sym, ◌∙◌, ap, subst}
use Rattle.job_course.specs.declared.turn.Turn.TheVariants.{ToAlert}
use Rattle.job_course.specs.declared.work.Work.{Work}
use Rattle.job_course.specs.Running.{IsTurn}
use Rattle.pef_core.specs.declared.controller.Controller.{Controller}
use Rattle.pef_core.specs.Course.{guid_by}
use Rattle.pef_core.specs.Values.{stamp_at, force_of}
use Rattle.pef_core.specs.After.{begins}
use Rattle.pef_core.specs.View.{shown}
use Rattle.pef_core.proofs.Deeds.{sends, first_turn_is}
use Rattle.pef_core.proofs.controller.Controller.send_to.Goals as goal

pub begin-requires : goal.begin-requires
begin-requires c = subst (λ j. IsTurn j.targets (ToAlert 0 0)) (sym c.at_once.ensures) (first_turn_is c.args.target)

pub returns-clause-values : goal.returns-clause-values
returns-clause-values c =
    let self = c.args.self.now in
    let work : Work = record { number = None; job = c.at_once.result; guid = c.guid.result } in
    c.begin.ensures.values
    ∙ ap {A = Controller} (λ m. record (shown m) { now = begins work (stamp_at m.ticks) (Some (ToAlert 0 0)) None (record (shown m).now { status = 0xFF }) }) c.finish.ensures
    ∙ sends (shown self) c.args.target c.at_once.result c.guid.result c.at_once.ensures (c.guid.ensures ∙ ap {A = Controller} (λ m. guid_by (force_of (shown m))) c.finish.ensures)
