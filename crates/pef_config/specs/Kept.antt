-- What stands at each place, by the octets and the tables that are kept.
use Rattle.std.specs.Prelude.{ℕ, ◌&&◌, nat_le, List, [], ◌∷◌, take, drop, if◌then◌else◌}
use Rattle.std.specs.List.{slice_index_or}
use Rattle.alert_strings.specs.declared.strings.Strings.{Strings}
use Rattle.alert_strings.specs.Kept.{blocks, keys}
use Rattle.alert_strings.specs.Table.{block_place}
use Rattle.filter_table.specs.Filters.{is_number, numbered}
use Rattle.pef_config.specs.declared.config.Config.{Config}
use Rattle.pef_config.specs.Places.{Tables, SetInProgress, Control, Actions, Delay, FirstOctet, OtherOctets, Policy, Guid, StringKey, Block}

abbrev pub key_octets : (ℕ × ℕ) → List ℕ
key_octets key = key.0 ∷ key.1 ∷ []

-- the two octets of a string's key, none where there is no such string
abbrev pub key_at : Strings → ℕ → List ℕ
key_at strings n = if nat_le n 8 then key_octets (slice_index_or (keys strings) n (0, 0)) else []

-- a block of a string, no octets where there is none
abbrev pub block_at : Strings → ℕ → ℕ → List ℕ
block_at strings n block =
    if nat_le n 8 && is_number 4 block
    then slice_index_or (blocks strings) (block_place 4 n block) []
    else []

abbrev pub tables : Config → Tables
tables c SetInProgress = c.set_in_progress ∷ []
tables c Control = c.control ∷ []
tables c Actions = c.actions ∷ []
tables c Delay = c.delay ∷ []
tables c (FirstOctet n) = take 1 (numbered c.filters n)
tables c (OtherOctets n) = drop 1 (numbered c.filters n)
tables c (Policy n) = numbered c.policies n
tables c Guid = c.guid
tables c (StringKey n) = key_at c.strings n
tables c (Block n block) = block_at c.strings n block
