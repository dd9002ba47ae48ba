-- What the definition promises of the alerts of a job: IPMI 2.0, section 17.11.
use Rattle.std.specs.Prelude.{◌≡◌, ℕ, true, List, Some}
use Rattle.lan_dest.specs.declared.destination.Ports.{Ports}
use Rattle.lan_dest.specs.Parameters.{Tables as LanTables}
use Rattle.lan_dest.specs.Usable.{destination_at}
use Rattle.pef_config.specs.Places.{Sizes, Tables, Policy}
use Rattle.policy_table.specs.Entry.{channel, destination}
use Rattle.pef_match.specs.declared.alarm.Alarm.{Alarm}
use Rattle.pef_match.specs.declared.target.Target.{Target}
use Rattle.pef_match.specs.Alerts.{alarm_in, is_in_set}

-- A filter that matches the event asks for an alert by the target's policy number; its entry is enabled, of this policy number, with a
-- policy of 0 to 4; and the alert goes to the entry's destination, which can be sent to.
pub record IsNamed (sizes : Sizes) (tables : Tables) (lan : LanTables) (ports : Ports) (event : List ℕ) (target : Target) : Type 0 where
  pub alarm : Alarm
  pub asked : alarm_in sizes tables event target.policy_number ≡ Some alarm
  pub enabled : is_in_set target.policy_number (tables (Policy target.entry)) ≡ true
  pub to : destination_at ports lan (channel (tables (Policy target.entry))) (destination (tables (Policy target.entry))) ≡ Some target.to
