use Rattle.std.proofs.Common.{◌+◌, ◌∙◌, sym, subst, arith}
use Rattle.pef_match.proofs.Alarms.{Joins, alarm_passed, alarm_asked}
use Rattle.pef_match.proofs.alarm.alarm_of.Goals as goal
use Rattle.pef_match.proofs.alarm.alarm_of.Goals.{then-asks_alert, else-asks_alert}

pub loop-filter-preserved : goal.loop-filter-preserved
loop-filter-preserved c =
    let filters = c.args.filters.now in
    let mask = c.args.mask in
    let event = c.args.event.now in
    let number = c.args.policy_number in
    let i = c.loop-filter.filter-index in
    let filter = c.filter-item.result in
    record {
      counted = omega (arith, c.loop-filter.invariant.counted);
      found = elim c.if-asks_alert.branch [
        | then-asks_alert w ↦ w.alarm-is ∙ alarm_asked filters mask event number i filter c.filter-item.is c.loop-filter-test.true
            (sym c.asks_alert.ensures ∙ w.if-asks_alert.true) c.loop-filter.alarm c.loop-filter.invariant.found
            (c.loop-filter.number + 1) (omega (arith, c.loop-filter.invariant.counted)) w.joined.result
            (subst (λ s. Joins c.loop-filter.alarm s (c.loop-filter.number + 1) w.joined.result) w.severity.ensures w.joined.ensures)
        | else-asks_alert w ↦ w.alarm-is ∙ c.loop-filter.invariant.found ∙ alarm_passed filters mask event number i filter c.filter-item.is c.loop-filter-test.true
            (sym c.asks_alert.ensures ∙ w.if-asks_alert.false)
      ];
    }
