use Rattle.std.proofs.Common.{◌≡◌, ◌-◌, flat_map, All}
use Rattle.lan_dest.specs.Kept.{kept}
use Rattle.pef_config.specs.Kept.{tables}
use Rattle.pef_config.specs.Places.{our_sizes}
use Rattle.pef_match.specs.Alerts.{set_of}
use Rattle.pef_match.specs.Numbers.{numbers_from}
use Rattle.pef_match.specs.Parts.{CanBeSent}
use Rattle.pef_match.proofs.alerts.targets_of.Given as goal

-- the alerts of the policy sets so far
abbrev pub invariant-loop-policy_number : goal.invariant-loop-policy_number
invariant-loop-policy_number l = record {
  items : l.targets.items ≡ flat_map (set_of our_sizes (tables l.config) (kept l.lan) l.ports l.event) (numbers_from 1 (l.policy_number - 1));
  ready : All CanBeSent l.targets.items;
}
