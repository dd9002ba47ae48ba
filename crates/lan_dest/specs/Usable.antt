-- Which destinations an alert can be sent to: IPMI 2.0, section 23.2, table 23-4. That it is one of an own port of this project for each
-- destination type, and that the address 0.0.0.0 is none, are this project's choices.
use Rattle.std.specs.Prelude.{ℕ, ◌+◌, ◌≤◌, Bool, not, ◌==◌, ◌&&◌, ◌||◌, if◌then◌else◌, List, take, drop, Option, Some, None}
use Rattle.std.specs.List.{before_first, list_all}
use Rattle.lan_dest.specs.declared.destination.Destination.{Destination}
use Rattle.lan_dest.specs.declared.destination.Ports.{Ports}
use Rattle.lan_dest.specs.Octets.{octet, bits}
use Rattle.lan_dest.specs.Parameters.{Tables, at, is_channel, is_selector}

-- the octets before the first 00h
abbrev pub text_of : List ℕ → List ℕ
text_of octets = before_first (λ octet. octet == 0) octets

-- PET trap, OEM 1 and OEM 2
abbrev pub is_kind : ℕ → Bool
is_kind kind = (kind == 0) || (kind == 6) || (kind == 7)

abbrev pub port_for : Ports → ℕ → ℕ
port_for ports kind = if kind == 0 then ports.pet else (if kind == 6 then ports.oem1 else ports.oem2)

-- The type has three octets: acknowledged in bit 7 and the type in bits 2:0; the seconds between transmissions, from 0 for one second; the
-- retries in bits 2:0. Of the address, octets 3 to 6 are that of IPv4.
abbrev pub destination_from : Ports → List ℕ → List ℕ → List ℕ → Destination
destination_from ports kind address community = record {
  to = record { ip = take 4 (drop 2 address); port = port_for ports (bits 2 0 (octet 1 kind)) };
  acknowledged = bits 7 7 (octet 1 kind) == 1;
  kind = bits 2 0 (octet 1 kind);
  wait = octet 2 kind + 1;
  retries = bits 2 0 (octet 3 kind);
  community = text_of community;
}

abbrev pub is_usable : Destination → Bool
is_usable destination = is_kind destination.kind && not (list_all (λ octet. octet == 0) destination.to.ip)

abbrev pub if_usable : Destination → Option Destination
if_usable destination = if is_usable destination then Some destination else None

-- the destination of this number on this channel, where it can be sent to
abbrev pub destination_at : Ports → Tables → ℕ → ℕ → Option Destination
destination_at ports tables channel number =
    if is_channel channel && is_selector number
    then if_usable (destination_from ports (tables (at channel 18 number)) (tables (at channel 19 number)) (tables (at channel 16 0)))
    else None

-- what an attempt takes: 1 to 256 seconds between transmissions, and at most 7 retries
pub record CanBeTried (destination : Destination) : Type 0 where
  pub wait : (1 ≤ destination.wait) × (destination.wait ≤ 256)
  pub retries : destination.retries ≤ 7
