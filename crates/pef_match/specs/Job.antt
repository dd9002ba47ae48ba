-- The job of an event record, by the values of the parameters: IPMI 2.0, sections 17.6 (action priorities) and 17.7. The matching filters are
-- selected from the table, and their action octets ANDed with parameter 2. Of the acts that they ask for one is done, the first in the
-- order power down, power cycle, reset, diagnostic interrupt; the OEM action is done beside it, which is this project's rule. The alerts are
-- those of `targets_of`.
use Rattle.std.specs.Prelude.{ℕ, Bool, ◌==◌, List, map, filter, Option, Some, None, bit_and, if◌then◌else◌}
use Rattle.std.specs.List.{list_any}
use Rattle.std.specs.Int.{bit_at}
use Rattle.board_core.specs.declared.step.Act.{Act}
use Rattle.board_core.specs.declared.step.Act.TheVariants.{PowerDown, PowerCycle, Reset, DiagInt}
use Rattle.event_record.specs.Fields.{octet}
use Rattle.filter_table.specs.Entry.{actions}
use Rattle.filter_table.specs.BitTest.{is_match}
use Rattle.lan_dest.specs.declared.destination.Ports.{Ports}
use Rattle.lan_dest.specs.Parameters.{Tables as LanTables}
use Rattle.pef_config.specs.Places.{Sizes, Tables, Actions, filter_at}
use Rattle.pef_match.specs.Alerts.{targets_of}
use Rattle.pef_match.specs.Numbers.{numbers_from}
use Rattle.pef_match.specs.Parts.{Parts}

-- the filters of the table, from number 1 on
unfoldable pub filters_in : Sizes → Tables → List (List ℕ)
filters_in sizes tables = map (filter_at tables) (numbers_from 1 sizes.filters)

-- the action octets of those of these filters that match the event, each under the mask
abbrev pub asked_by : List (List ℕ) → ℕ → List ℕ → List ℕ
asked_by filters mask event = map (λ f. bit_and (actions f) mask) (filter (λ f. is_match f event) filters)

-- the action octets of the matching filters, each ANDed with parameter 2
abbrev pub asked : Sizes → Tables → List ℕ → List ℕ
asked sizes tables event = asked_by (filters_in sizes tables) (octet 1 (tables Actions)) event

-- one of the octets has bit n
abbrev pub has_bit : List ℕ → ℕ → Bool
has_bit octets n = list_any (λ o. bit_at o n == 1) octets

-- the act, by whether each bit is asked for: bit 1 power down, 3 power cycle, 2 reset, 5 diagnostic interrupt
abbrev pub act_by : (ℕ → Bool) → Option Act
act_by is_asked =
    if is_asked 1 then Some PowerDown
    else if is_asked 3 then Some PowerCycle
    else if is_asked 2 then Some Reset
    else if is_asked 5 then Some DiagInt
    else None

-- the job of an event; bit 4 asks for the OEM action
abbrev pub job : Sizes → Tables → LanTables → Ports → List ℕ → Parts
job sizes tables lan ports event = record {
  act = act_by (has_bit (asked sizes tables event));
  targets = targets_of sizes tables lan ports event;
  oem = has_bit (asked sizes tables event) 4;
  event = Some event;
}
