-- Worked examples of the alerts: a fan's event under two filters, with policy entries, destinations and strings.
use Rattle.std.proofs.Common.{◌≡◌, ℕ, true, false, List, [], ◌∷◌, replicate, refl}
use Rattle.std.specs.Prelude.{codes}
use Rattle.filter_table.specs.BitTest.{fits, is_match}
use Rattle.lan_dest.specs.declared.destination.Destination.{Destination}
use Rattle.lan_dest.specs.declared.destination.Ports.{Ports}
use Rattle.lan_dest.specs.Parameters.{Tables as LanTables, Write as LanWrite, value as lan_value}
use Rattle.pef_config.specs.Places.{Tables, Write, our_sizes, value, write}
use Rattle.pef_match.specs.declared.target.Target.{Target}
use Rattle.pef_match.specs.Alerts.{alarm_in, set_by, targets_of}
use Rattle.pef_match.specs.Texts.{alert_text}

-- a filter on sensor type 04h and offset 2, with these actions, this policy number and this severity
abbrev filter_write : ℕ → ℕ → ℕ → ℕ → Write
filter_write n actions number severity =
    write 6 (n ∷ 0x80 ∷ actions ∷ number ∷ severity ∷ 0xFF ∷ 0xFF ∷ 0x04 ∷ 0xFF ∷ 0x01 ∷ 0x04 ∷ replicate 10 0x00)

abbrev policy_write : ℕ → ℕ → ℕ → ℕ → Write
policy_write n octet_1 octet_2 octet_3 = write 9 (n ∷ octet_1 ∷ octet_2 ∷ octet_3 ∷ [])

abbrev tables : List Write → Tables
tables writes = value our_sizes (record { control = 0x01; actions = 0x3D; delay = 0; filter = replicate 20 0 }) writes

abbrev lan_write : ℕ → ℕ → List ℕ → LanWrite
lan_write channel parameter payload = record { channel = channel; parameter = parameter; payload = payload }

-- destinations 1 and 2 of channel 1 and 1 of channel 2; destination 3 of channel 1 has an address, and a type that can't be sent to
abbrev lan : LanTables
lan = lan_value (
    lan_write 1 19 (0x01 ∷ 0x00 ∷ 0x00 ∷ 10 ∷ 0 ∷ 0 ∷ 9 ∷ replicate 6 0) ∷ lan_write 1 19 (0x02 ∷ 0x00 ∷ 0x00 ∷ 10 ∷ 0 ∷ 0 ∷ 10 ∷ replicate 6 0)
    ∷ lan_write 2 19 (0x01 ∷ 0x00 ∷ 0x00 ∷ 10 ∷ 0 ∷ 0 ∷ 11 ∷ replicate 6 0) ∷ lan_write 1 19 (0x03 ∷ 0x00 ∷ 0x00 ∷ 10 ∷ 0 ∷ 0 ∷ 12 ∷ replicate 6 0)
    ∷ lan_write 1 18 (0x02 ∷ 0x86 ∷ 0x02 ∷ 0x02 ∷ []) ∷ lan_write 1 18 (0x03 ∷ 0x01 ∷ 0x00 ∷ 0x00 ∷ []) ∷ [])

abbrev ports : Ports
ports = record { pet = 162; oem1 = 1006; oem2 = 1007 }

abbrev event : List ℕ
event = 0x01 ∷ 0x00 ∷ 0x02 ∷ 0x00 ∷ 0xCA ∷ 0x9A ∷ 0x3B ∷ 0x20 ∷ 0x00 ∷ 0x04 ∷ 0x04 ∷ 0x30 ∷ 0x01 ∷ 0x52 ∷ 0x10 ∷ 0x20 ∷ []

abbrev alerts : List Write → List Target
alerts writes = targets_of our_sizes (tables writes) lan ports event

-- the destinations: to the port of a trap, once; and to that of OEM 1, acknowledged, at 0, 3 and 6 seconds
abbrev once_to : ℕ → Destination
once_to last = record {
  to = record { ip = 10 ∷ 0 ∷ 0 ∷ last ∷ []; port = 162 };
  acknowledged = false;
  kind = 0;
  wait = 1;
  retries = 0;
  community = codes "public";
}

abbrev acknowledged_to : ℕ → Destination
acknowledged_to last = record {
  to = record { ip = 10 ∷ 0 ∷ 0 ∷ last ∷ []; port = 1006 };
  acknowledged = true;
  kind = 6;
  wait = 3;
  retries = 2;
  community = codes "public";
}

abbrev target : ℕ → ℕ → ℕ → ℕ → Destination → ℕ → List ℕ → Target
target number entry policy channel to severity text = record {
  policy_number = number;
  entry = entry;
  stop = record { policy = policy; channel = channel; kind = to.kind };
  to = to;
  severity = severity;
  text = text;
}

-- the three entries of the worked walk, of policies 0, 1 and 3
pub three_entries :
    alerts (filter_write 1 0x01 0x01 0x10 ∷ policy_write 1 0x18 0x11 0x00 ∷ policy_write 2 0x19 0x12 0x00 ∷ policy_write 3 0x1B 0x21 0x00 ∷ [])
    ≡ target 1 1 0 1 (once_to 9) 0x10 [] ∷ target 1 2 1 1 (acknowledged_to 10) 0x10 [] ∷ target 1 3 3 2 (once_to 11) 0x10 [] ∷ []
unfolding fits is_match alarm_in set_by targets_of alert_text
three_entries = refl

-- string 2 has the key of filter 2 and set 5, and string 3 that of filter 4 and set 5
abbrev strings : List Write
strings =
    write 12 (0x02 ∷ 0x02 ∷ 0x05 ∷ []) ∷ write 12 (0x03 ∷ 0x04 ∷ 0x05 ∷ []) ∷ write 13 (0x02 ∷ 0x01 ∷ codes "two")
    ∷ write 13 (0x03 ∷ 0x01 ∷ codes "three") ∷ []

-- Of filters 2, 4 and 6 the severity is the greatest, of filter 4, and the string that of filter 2, the least; with key 03h it is string 3
-- whatever the filter, and with key 86h none, since no string is of set 6.
pub greatest_and_least :
    alerts (filter_write 2 0x01 0x01 0x04 ∷ filter_write 4 0x01 0x01 0x20 ∷ filter_write 6 0x01 0x01 0x08
    ∷ policy_write 5 0x18 0x11 0x85 ∷ policy_write 7 0x18 0x11 0x03 ∷ policy_write 16 0x18 0x11 0x86 ∷ strings)
    ≡ target 1 5 0 1 (once_to 9) 0x20 (codes "two") ∷ target 1 7 0 1 (once_to 9) 0x20 (codes "three") ∷ target 1 16 0 1 (once_to 9) 0x20 [] ∷ []
unfolding fits is_match alarm_in set_by targets_of alert_text
greatest_and_least = refl

-- a filter without the alert bit, or of another policy number, gives neither severity nor string
pub others_give_nothing :
    alerts (filter_write 2 0x3E 0x01 0x20 ∷ filter_write 4 0x01 0x01 0x08 ∷ filter_write 5 0x01 0x02 0x20 ∷ policy_write 5 0x18 0x11 0x85 ∷ strings)
    ≡ target 1 5 0 1 (once_to 9) 0x08 (codes "three") ∷ []
unfolding fits is_match alarm_in set_by targets_of alert_text
others_give_nothing = refl

-- an entry whose destination has no address, can't be sent to by its type, or isn't there; of policies 5 to 7; disabled; of another number
pub left_out :
    alerts (filter_write 1 0x01 0x01 0x10 ∷ policy_write 1 0x18 0x14 0x00 ∷ policy_write 2 0x18 0x13 0x00 ∷ policy_write 3 0x18 0x15 0x00
    ∷ policy_write 4 0x18 0x31 0x00 ∷ policy_write 5 0x1D 0x11 0x00 ∷ policy_write 6 0x1E 0x11 0x00 ∷ policy_write 7 0x1F 0x11 0x00
    ∷ policy_write 8 0x10 0x11 0x00 ∷ policy_write 9 0x28 0x11 0x00 ∷ policy_write 10 0x1C 0x21 0x00 ∷ [])
    ≡ target 1 10 4 2 (once_to 11) 0x10 [] ∷ []
unfolding fits is_match alarm_in set_by targets_of alert_text
left_out = refl

-- the sets come by policy number, and in each the entries by number
pub ascending :
    alerts (filter_write 1 0x01 0x0F 0x10 ∷ filter_write 2 0x01 0x02 0x08 ∷ policy_write 1 0xF8 0x11 0x00 ∷ policy_write 2 0x28 0x12 0x00
    ∷ policy_write 3 0xF8 0x21 0x00 ∷ policy_write 4 0x28 0x21 0x00 ∷ [])
    ≡ target 2 2 0 1 (acknowledged_to 10) 0x08 [] ∷ target 2 4 0 2 (once_to 11) 0x08 [] ∷ target 15 1 0 1 (once_to 9) 0x10 []
    ∷ target 15 3 0 2 (once_to 11) 0x10 [] ∷ []
unfolding fits is_match alarm_in set_by targets_of alert_text
ascending = refl

-- policy number 0 belongs to no set, and parameter 2 without bit 0 lets no alert through
pub none :
    (alerts (filter_write 1 0x01 0x00 0x10 ∷ policy_write 1 0x08 0x11 0x00 ∷ []) ≡ [])
    × (alerts (write 2 (0x3C ∷ []) ∷ filter_write 1 0x3F 0x01 0x10 ∷ policy_write 1 0x18 0x11 0x00 ∷ []) ≡ [])
unfolding fits is_match alarm_in set_by targets_of alert_text
none = (refl, refl)
