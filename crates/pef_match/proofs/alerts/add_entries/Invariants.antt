use Rattle.std.proofs.Common.{◌≡◌, ◌-◌, ◌++◌, filter_map, All}
use Rattle.lan_dest.specs.Kept.{kept}
use Rattle.pef_config.specs.Kept.{tables}
use Rattle.pef_match.specs.Numbers.{numbers_from}
use Rattle.pef_match.specs.Parts.{CanBeSent}
use Rattle.pef_match.proofs.Sets.{entry_alert}
use Rattle.pef_match.proofs.alerts.add_entries.Given as goal

-- the alerts of the entries so far are behind those of the sets before
abbrev pub invariant-loop-number : goal.invariant-loop-number
invariant-loop-number l = record {
  items : l.targets.items ≡ l.fn.targets.items ++ filter_map (entry_alert (tables l.config) (kept l.lan) l.ports l.policy_number l.alarm)
      (numbers_from 1 (l.number - 1));
  ready : All CanBeSent l.targets.items;
}
