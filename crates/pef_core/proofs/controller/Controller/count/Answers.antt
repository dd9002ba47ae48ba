use Rattle.std.proofs.Common.{Some, sym, ◌∙◌, ap}
use Rattle.pef_core.specs.Values.{stamp_at}
use Rattle.pef_core.specs.After.{now_with, counted_now}
use Rattle.pef_core.specs.View.{shown}
use Rattle.pef_core.proofs.Deeds.{begins_alike}
use Rattle.pef_core.proofs.controller.Controller.count.Goals as goal

pub returns-in-Ended-clause-values : goal.returns-in-Ended-clause-values
returns-in-Ended-clause-values c =
    let self = c.args.self.now in
    let v = shown self in
    let stamp = stamp_at self.ticks in
    c.begin.ensures.values
    ∙ ap (λ n. record v { now = n }) (
    begins_alike c.in-Ended.work stamp c.in-Ended.turn (Some c.in-Ended.success) c.take.new.self v.now
    ∙ ap (λ p. now_with stamp p v.now) (sym c.in-Ended.is ∙ c.after.ensures.progress)
    ∙ ap (λ o. counted_now c.args.counts.now stamp o v.now) (sym c.in-Some.is ∙ c.take.ensures.value))
