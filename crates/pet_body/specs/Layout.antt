-- The octets of a platform event trap's body: PET 1.0, whose table counts octets from 1. That a body is refused for its length alone is
-- this project's rule.
use Rattle.std.specs.Prelude.{ℕ, ◌+◌, ◌-◌, List, [], ◌∷◌, length, take, drop, slice_index, nat_lt, Option, Some, None, if◌then◌else◌}
use Rattle.std.specs.List.{concat}
use Rattle.byteorder.specs.Endian.{big_number, big_bytes}
use Rattle.pet_body.specs.declared.body.Body.{Body}
use Rattle.pet_body.specs.declared.fault.BodyFault.{BodyFault}
use Rattle.pet_body.specs.declared.fault.BodyFault.TheVariants.{Short, Long}

-- the fields, one behind the other, numbers with their most significant octet first
abbrev pub layout : Body → List ℕ
layout body = concat (
    body.guid
    ∷ big_bytes 2 body.sequence
    ∷ big_bytes 4 body.timestamp
    ∷ big_bytes 2 body.utc
    ∷ (body.trap_source ∷ body.event_source ∷ [])
    ∷ (body.severity ∷ [])
    ∷ (body.device ∷ body.sensor ∷ [])
    ∷ (body.entity ∷ body.instance ∷ [])
    ∷ body.event_data
    ∷ (body.language ∷ [])
    ∷ big_bytes 4 body.manufacturer
    ∷ big_bytes 2 body.system
    ∷ body.tail
    ∷ [])

abbrev pub octets_of : ℕ → ℕ → List ℕ → List ℕ
octets_of first last octets = take (last + 1 - first) (drop (first - 1) octets)

abbrev pub octet_of : ℕ → List ℕ → ℕ
octet_of place octets = slice_index octets (place - 1)

-- the number in these octets, the most significant first
abbrev pub number_of : ℕ → ℕ → List ℕ → ℕ
number_of first last octets = big_number (last + 1 - first) (drop (first - 1) octets)

-- the body whose octets these are, by the columns of the table
abbrev pub body_in : List ℕ → Body
body_in octets = record {
  guid = octets_of 1 16 octets;
  sequence = number_of 17 18 octets;
  timestamp = number_of 19 22 octets;
  utc = number_of 23 24 octets;
  trap_source = octet_of 25 octets;
  event_source = octet_of 26 octets;
  severity = octet_of 27 octets;
  device = octet_of 28 octets;
  sensor = octet_of 29 octets;
  entity = octet_of 30 octets;
  instance = octet_of 31 octets;
  event_data = octets_of 32 39 octets;
  language = octet_of 40 octets;
  manufacturer = number_of 41 44 octets;
  system = number_of 45 46 octets;
  tail = drop 46 octets;
}

-- why octets are no body, where they are none
abbrev pub length_fault : List ℕ → Option BodyFault
length_fault octets =
    if nat_lt (length octets) 46 then Some (Short (length octets))
    else (if nat_lt 110 (length octets) then Some (Long (length octets)) else None)
