-- Where the values of the PEF configuration parameters stand, and what stands there: what the last accepted write put there, or the
-- initial value. IPMI 2.0, section 30.3 and table 30-7. The writes are a list, the latest first. That reserved bits are kept and read back, and
-- which values are initial, is this project's rule.
use Rattle.std.specs.Prelude.{◌≡◌, ℕ, ◌%◌, Bool, true, false, not, ◌&&◌, ◌||◌, ◌==◌, nat_le, List, [], ◌∷◌, ◌++◌, take, drop, replicate, Option, Some, None, if◌then◌else◌}
use Rattle.std.specs.Int.{bit_at}
use Rattle.alert_strings.specs.Table.{filled}
use Rattle.event_record.specs.Fields.{octet}
use Rattle.filter_table.specs.Filters.{is_number}
use Rattle.pef_config.specs.declared.initial.Initial.{Initial}

-- how many entries the tables have: filters, policy entries, strings beside string 0, and blocks of a string
pub record Sizes : Type 0 where
  pub filters : ℕ
  pub policies : ℕ
  pub strings : ℕ
  pub blocks : ℕ

-- the tables of this product
abbrev pub our_sizes : Sizes
our_sizes = record { filters = 16; policies = 16; strings = 8; blocks = 4 }

-- Parameters 0 to 3, and of each filter the first octet (parameter 7) and octets 2 to 20, which are the rest of parameter 6; each policy
-- entry (parameter 9), the GUID (10), each string's key (12), and each block of each string (13).
pub data Place : Type 0 where
  SetInProgress : Place
  Control : Place
  Actions : Place
  Delay : Place
  FirstOctet : ℕ → Place
  OtherOctets : ℕ → Place
  Policy : ℕ → Place
  Guid : Place
  StringKey : ℕ → Place
  Block : ℕ → ℕ → Place

-- what stands at each place
abbrev pub Tables : Type 0
Tables = Place → List ℕ

-- the filter of this number
abbrev pub filter_at : Tables → ℕ → List ℕ
filter_at tables n = tables (FirstOctet n) ++ tables (OtherOctets n)

-- the GUID, where bit 0 of the first octet says that it is to be used
abbrev pub guid_in : Tables → Option (List ℕ)
guid_in tables = if bit_at (octet 1 (tables Guid)) 0 == 1 then Some (drop 1 (tables Guid)) else None

-- filter 1 is given, the others are zeros
abbrev pub initial_filter : Sizes → Initial → ℕ → List ℕ
initial_filter sizes initial n =
    if not (is_number sizes.filters n) then []
    else if n == 1 then initial.filter
    else replicate 20 0

-- strings count from 0, and their blocks from 1
abbrev pub is_string : Sizes → ℕ → Bool
is_string sizes n = nat_le n sizes.strings

abbrev pub is_block : Sizes → ℕ → ℕ → Bool
is_block sizes n block = is_string sizes n && is_number sizes.blocks block

abbrev pub zeros_if : Bool → ℕ → List ℕ
zeros_if holds count = if holds then replicate count 0 else []

abbrev pub initial_value : Sizes → Initial → Tables
initial_value sizes initial SetInProgress = 0 ∷ []
initial_value sizes initial Control = initial.control ∷ []
initial_value sizes initial Actions = initial.actions ∷ []
initial_value sizes initial Delay = initial.delay ∷ []
initial_value sizes initial (FirstOctet n) = take 1 (initial_filter sizes initial n)
initial_value sizes initial (OtherOctets n) = drop 1 (initial_filter sizes initial n)
initial_value sizes initial (Policy n) = zeros_if (is_number sizes.policies n) 3
initial_value sizes initial Guid = replicate 17 0
initial_value sizes initial (StringKey n) = zeros_if (is_string sizes n) 2
initial_value sizes initial (Block n block) = zeros_if (is_block sizes n block) 16

-- a write of a parameter: the octets behind the parameter octet
pub record Write : Type 0 where
  pub parameter : ℕ
  pub payload : List ℕ

abbrev pub write : ℕ → List ℕ → Write
write parameter payload = record { parameter = parameter; payload = payload }

-- the selector, bits 6:0 of its octet
abbrev pub selector : ℕ → ℕ
selector octet = octet % 128

-- the first octet of the payload selects this entry
abbrev pub selects : List ℕ → ℕ → Bool
selects payload n = selector (octet 1 payload) == n

-- the second octet of the payload names this block
abbrev pub selects_block : List ℕ → ℕ → ℕ → Bool
selects_block payload n block = selects payload n && (octet 2 payload == block)

abbrev pub only_if : Bool → List ℕ → Option (List ℕ)
only_if true octets = Some octets
only_if false octets = None

-- What a write puts at a place. Parameters 6 and 7 both write the first octet of a filter. A block is written whole, filled up with 00h.
abbrev pub written : Write → Place → Option (List ℕ)
written w SetInProgress = only_if (w.parameter == 0) w.payload
written w Control = only_if (w.parameter == 1) w.payload
written w Actions = only_if (w.parameter == 2) w.payload
written w Delay = only_if (w.parameter == 3) w.payload
written w (FirstOctet n) = only_if (((w.parameter == 6) || (w.parameter == 7)) && selects w.payload n) (take 1 (drop 1 w.payload))
written w (OtherOctets n) = only_if ((w.parameter == 6) && selects w.payload n) (drop 2 w.payload)
written w (Policy n) = only_if ((w.parameter == 9) && selects w.payload n) (drop 1 w.payload)
written w Guid = only_if (w.parameter == 10) w.payload
written w (StringKey n) = only_if ((w.parameter == 12) && selects w.payload n) (drop 1 w.payload)
written w (Block n block) = only_if ((w.parameter == 13) && selects_block w.payload n block) (filled 16 (drop 2 w.payload))

abbrev pub last_or : List ℕ → Option (List ℕ) → List ℕ
last_or earlier None = earlier
last_or earlier (Some octets) = octets

-- the last write at each place, or the initial value
abbrev pub value : Sizes → Initial → List Write → Tables
value sizes initial [] place = initial_value sizes initial place
value sizes initial (w ∷ earlier) place = last_or (value sizes initial earlier place) (written w place)

-- Each place holds what these writes, from these initial values on, put there last.
abbrev pub Holds : Sizes → Initial → List Write → Tables → Type 0
Holds sizes initial writes tables = (place : Place) → tables place ≡ value sizes initial writes place

-- A write put its octets at its places, and every other place is as it was.
abbrev pub PutsAt : Write → Tables → Tables → Type 0
PutsAt w old new = (place : Place) → new place ≡ last_or (old place) (written w place)

-- a write that was answered 00h is accepted, any other isn't
abbrev pub with_write : ℕ → Write → List Write → List Write
with_write code w earlier = if code == 0x00 then w ∷ earlier else earlier

-- String 0 and its key are volatile, and a set in progress ends with the power: the power counts as writes of zeros to set in progress, to
-- the key of string 0 and to its blocks, each of which is filled up with 00h.
abbrev pub zeros_to_block : ℕ → Write
zeros_to_block block = write 13 (0 ∷ block ∷ 0 ∷ [])

abbrev pub power_writes : List Write
power_writes = write 0 (0 ∷ []) ∷ write 12 (replicate 3 0) ∷ zeros_to_block 1 ∷ zeros_to_block 2 ∷ zeros_to_block 3 ∷ zeros_to_block 4 ∷ []

-- What stands behind them: zeros at these places, and every other place is as it was.
abbrev pub powered : Tables → Tables
powered tables SetInProgress = 0 ∷ []
powered tables (StringKey n) = if n == 0 then replicate 2 0 else tables (StringKey n)
powered tables (Block n block) = if (n == 0) && is_number 4 block then replicate 16 0 else tables (Block n block)
powered tables place = tables place
