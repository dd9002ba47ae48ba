-- The alerts of an event record, by the values of the parameters: IPMI 2.0, sections 17.7 (event filter table), 17.11 (alert policy table) and
-- 23.2 (destinations). Policy number 0 is reserved: it belongs to no set. That the sets come in ascending policy number, which
-- filter gives the severity and which the number that strings are looked up by, and that an entry of a reserved policy or without a
-- usable destination counts as disabled, are this project's rules.
use Rattle.std.specs.Prelude.{ℕ, Bool, ◌&&◌, ◌==◌, nat_le, List, [], ◌∷◌, map, filter, filter_map, flat_map, Option, Some, None, bit_and, if◌then◌else◌}
use Rattle.std.specs.Int.{bit_at}
use Rattle.event_record.specs.Fields.{octet}
use Rattle.filter_table.specs.Entry.{actions, policy_number as number_named, severity as severity_in}
use Rattle.filter_table.specs.BitTest.{is_match}
use Rattle.lan_dest.specs.declared.destination.Destination.{Destination}
use Rattle.lan_dest.specs.declared.destination.Ports.{Ports}
use Rattle.lan_dest.specs.Parameters.{Tables as LanTables}
use Rattle.lan_dest.specs.Usable.{destination_at}
use Rattle.pef_config.specs.Places.{Sizes, Tables, Actions, Policy, filter_at}
use Rattle.policy_table.specs.Entry.{bits, policy_number, policy, channel, destination, string_key}
use Rattle.policy_walk.specs.Stops.{stop_of}
use Rattle.pef_match.specs.declared.alarm.Alarm.{Alarm}
use Rattle.pef_match.specs.declared.target.Target.{Target}
use Rattle.pef_match.specs.Numbers.{numbers_from, greatest, least}
use Rattle.pef_match.specs.Texts.{alert_text}

-- A filter asks for an alert by this policy number: it names the number, bit 0 of its action octet is 1 under the mask, and it matches the
-- event.
abbrev pub asks_alert : ℕ → List ℕ → ℕ → List ℕ → Bool
asks_alert mask event number f = (number_named f == number) && (bit_at (bit_and (actions f) mask) 0 == 1) && is_match f event

-- What the filters with these numbers give to the alerts that they ask for: the greatest severity of them, and the least number, by which
-- strings are looked up.
abbrev pub alarm_by : (ℕ → List ℕ) → List ℕ → Option Alarm
alarm_by filters [] = None
alarm_by filters (n ∷ others) = Some (record { severity = greatest (map (λ k. severity_in (filters k)) (n ∷ others)); filter = least n others })

-- of `count` filters those that ask for an alert by this policy number
abbrev pub alarm : ℕ → (ℕ → List ℕ) → ℕ → List ℕ → ℕ → Option Alarm
alarm count filters mask event number = alarm_by filters (filter (λ n. asks_alert mask event number (filters n)) (numbers_from 1 count))

-- the same by the values of the parameters; parameter 2 is the mask
unfoldable pub alarm_in : Sizes → Tables → List ℕ → ℕ → Option Alarm
alarm_in sizes tables event number = alarm sizes.filters (filter_at tables) (octet 1 (tables Actions)) event number

-- the entry is enabled, of this policy number, and of a policy of 0 to 4
abbrev pub is_in_set : ℕ → List ℕ → Bool
is_in_set number entry = (policy_number entry == number) && (bits 3 3 (octet 1 entry) == 1) && nat_le (policy entry) 4

module _ (sizes : Sizes) (tables : Tables) (lan : LanTables) (ports : Ports) where
  -- the alert to this destination, for the policy entry of this number
  abbrev pub target_to : Alarm → ℕ → List ℕ → Option Destination → Option Target
  target_to alarm number entry None = None
  target_to alarm number entry (Some to) = Some (record {
    policy_number = policy_number entry;
    entry = number;
    stop = stop_of entry to.kind;
    to = to;
    severity = alarm.severity;
    text = alert_text sizes tables (string_key entry) alarm.filter;
  })

  -- the alert for a policy entry, where its destination is usable
  abbrev pub target_of : Alarm → ℕ → List ℕ → Option Target
  target_of alarm number entry = target_to alarm number entry (destination_at ports lan (channel entry) (destination entry))

  -- the alerts of the entries of a policy set, by the number of the entry; none where no filter asks for them
  unfoldable pub set_by : ℕ → Option Alarm → List Target
  set_by number None = []
  set_by number (Some alarm) =
      filter_map (λ n. if is_in_set number (tables (Policy n)) then target_of alarm n (tables (Policy n)) else None) (numbers_from 1 sizes.policies)

  -- the alerts of the policy set of this number
  abbrev pub set_of : List ℕ → ℕ → List Target
  set_of event number = set_by number (alarm_in sizes tables event number)

  -- the alerts of an event, by policy number from 1 to 15
  unfoldable pub targets_of : List ℕ → List Target
  targets_of event = flat_map (set_of event) (numbers_from 1 15)
