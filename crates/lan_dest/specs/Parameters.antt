-- The content of the LAN parameters that are kept: 16, 18 and 19 of IPMI 2.0, section 23.2, table 23-4. A parameter is what was written
-- there last, or its initial value. This project's choices are the channels 1 and 2, five destinations on each, and the community
-- `public` at first.
use Rattle.std.specs.Prelude.{ℕ, Bool, ◌==◌, ◌&&◌, ◌||◌, nat_le, if◌then◌else◌, List, [], ◌∷◌, ◌++◌, take, drop, replicate, codes}
use Rattle.lan_dest.specs.Octets.{octet, bits}

-- where something is kept: a parameter of a channel; of destination types and addresses one for each destination, which the selector names
pub record Place : Type 0 where
  pub channel : ℕ
  pub parameter : ℕ
  pub selector : ℕ

abbrev pub at : ℕ → ℕ → ℕ → Place
at channel parameter selector = record { channel = channel; parameter = parameter; selector = selector }

abbrev pub same_place : Place → Place → Bool
same_place a b = (a.channel == b.channel) && (a.parameter == b.parameter) && (a.selector == b.selector)

abbrev pub is_channel : ℕ → Bool
is_channel channel = (channel == 1) || (channel == 2)

-- the parameters that there is one of for each destination
abbrev pub has_selector : ℕ → Bool
has_selector parameter = (parameter == 18) || (parameter == 19)

-- destinations 0 to 4
abbrev pub is_selector : ℕ → Bool
is_selector selector = nat_le selector 4

abbrev pub is_place : Place → Bool
is_place place = is_channel place.channel
    && (((place.parameter == 16) && (place.selector == 0)) || (has_selector place.parameter && is_selector place.selector))

-- what is kept at each place, and nothing elsewhere
abbrev pub Tables : Type 0
Tables = Place → List ℕ

-- the octets of a parameter without its selector
abbrev pub width : ℕ → ℕ
width parameter = if parameter == 16 then 18 else (if parameter == 18 then 3 else 12)

-- these octets, filled up with 00h
abbrev pub filled : ℕ → List ℕ → List ℕ
filled width octets = take width (octets ++ replicate width 0)

abbrev pub initial : Tables
initial place =
    if is_place place
    then (if place.parameter == 16 then filled 18 (codes "public")
    else (if place.parameter == 18 then replicate 3 0 else replicate 12 0))
    else []

-- a write that was accepted: the octets behind the number of the parameter
pub record Write : Type 0 where
  pub channel : ℕ
  pub parameter : ℕ
  pub payload : List ℕ

-- the selector is bits 3:0 of the first octet
abbrev pub place_of : Write → Place
place_of write = at write.channel write.parameter (if has_selector write.parameter then bits 3 0 (octet 1 write.payload) else 0)

abbrev pub content_of : Write → List ℕ
content_of write = if has_selector write.parameter then drop 1 write.payload else write.payload

-- this content at this place, and elsewhere what was there
abbrev pub with_content : Place → List ℕ → Tables → Tables
with_content there content tables = λ place. if same_place place there then content else tables place

abbrev pub written : Write → Tables → Tables
written write tables = with_content (place_of write) (content_of write) tables

-- what is kept after these writes, the latest first
abbrev pub value : List Write → Tables
value [] = initial
value (write ∷ writes) = written write (value writes)

-- Power clears what is volatile: it counts as a write of zeros to destination 0 of both channels.
abbrev pub zeros_to : ℕ → ℕ → Write
zeros_to channel parameter = record { channel = channel; parameter = parameter; payload = 0 ∷ replicate (width parameter) 0 }

abbrev pub powered : Tables → Tables
powered tables = written (zeros_to 1 18) (written (zeros_to 1 19) (written (zeros_to 2 18) (written (zeros_to 2 19) tables)))
