-- Alert Immediate: one alert, which belongs to no record and no policy set (IPMI 2.0, section 30.7). That it tells no severity is this
-- project's choice.
use Rattle.std.specs.Prelude.{ℕ, false, List, [], ◌∷◌, Option, None, option_map}
use Rattle.lan_dest.specs.Parameters.{Tables as LanTables}
use Rattle.lan_dest.specs.Usable.{destination_at}
use Rattle.lan_dest.specs.declared.destination.Destination.{Destination}
use Rattle.lan_dest.specs.declared.destination.Ports.{Ports}
use Rattle.pef_config.specs.Places.{Sizes, Tables}
use Rattle.pef_match.specs.declared.target.Target.{Target}
use Rattle.pef_match.specs.Parts.{Parts}
use Rattle.pef_match.specs.Texts.{string_text}

-- to this destination, with this text
abbrev pub target_to : List ℕ → Destination → Target
target_to text to = record {
  policy_number = 0;
  entry = 0;
  stop = record { policy = 0; channel = 0; kind = 0 };
  to = to;
  severity = 0x00;
  text = text;
}

-- on this channel to the destination of this number, where an alert can be sent to it, with the text of this string, if one is wanted
abbrev pub target_at_once : Sizes → Tables → LanTables → Ports → ℕ → ℕ → Option ℕ → Option Target
target_at_once sizes tables lan ports channel number string =
    option_map (target_to (string_text sizes tables string)) (destination_at ports lan channel number)

-- nothing but this alert
abbrev pub at_once : Target → Parts
at_once target = record { act = None; targets = target ∷ []; oem = false; event = None }
