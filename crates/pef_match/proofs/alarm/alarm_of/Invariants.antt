use Rattle.std.proofs.Common.{◌≡◌}
use Rattle.filter_table.specs.Filters.{numbered}
use Rattle.pef_match.specs.Alerts.{alarm}
use Rattle.pef_match.proofs.alarm.alarm_of.Given as goal

-- the number of the filter before, and what the filters so far give
abbrev pub invariant-loop-filter : goal.invariant-loop-filter
invariant-loop-filter l = record {
  counted : l.number ≡ l.filter-index;
  found : l.alarm ≡ alarm l.filter-index (numbered l.filters) l.mask l.event l.policy_number;
}
