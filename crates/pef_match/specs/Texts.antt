-- The text of an alert, by the values of the parameters: IPMI 2.0, section 17.11 (string key) and section 30.3 (parameters 12 and 13). The
-- key of a policy entry names a string for the filter, by `string_for`. Where it names none the text is empty, which is this project's
-- choice.
use Rattle.std.specs.Prelude.{ℕ, ◌+◌, ◌==◌, List, [], map, take, flat_map, Option, Some, None}
use Rattle.std.specs.List.{before_first}
use Rattle.alert_strings.specs.Lookup.{string_for}
use Rattle.event_record.specs.Fields.{octet}
use Rattle.pef_config.specs.Places.{Sizes, Tables, StringKey, Block}
use Rattle.pef_match.specs.Numbers.{numbers_from}

-- the key of each string, from string 0 on: the octet of the filter and that of the string set
abbrev pub string_keys : Sizes → Tables → List (ℕ × ℕ)
string_keys sizes tables = map (λ n. (octet 1 (tables (StringKey n)), octet 2 (tables (StringKey n)))) (numbers_from 0 (1 + sizes.strings))

-- the blocks of the string of this number, one behind the other
abbrev pub string_octets : Sizes → Tables → ℕ → List ℕ
string_octets sizes tables n = flat_map (λ block. tables (Block n block)) (numbers_from 1 sizes.blocks)

-- the octets of a string before the first 00h, cut to 61
abbrev pub string_text : Sizes → Tables → Option ℕ → List ℕ
string_text sizes tables None = []
string_text sizes tables (Some n) = take 61 (before_first (λ octet. octet == 0) (string_octets sizes tables n))

-- the text that a string key gives to an alert for this filter
unfoldable pub alert_text : Sizes → Tables → ℕ → ℕ → List ℕ
alert_text sizes tables key filter = string_text sizes tables (string_for sizes.strings (string_keys sizes tables) key filter)
