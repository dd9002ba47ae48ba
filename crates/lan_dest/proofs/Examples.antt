-- The definitions on worked parameters, destinations and attempts.
use Rattle.std.proofs.Common.{◌≡◌, ℕ, Bool, true, false, List, [], ◌∷◌, replicate, Some, None, refl}
use Rattle.std.specs.Prelude.{codes}
use Rattle.lan_dest.specs.declared.destination.Ports.{Ports}
use Rattle.lan_dest.specs.Parameters.{Write, Tables, at, value, filled, powered}
use Rattle.lan_dest.specs.Rows.{set_code, get_reply}
use Rattle.lan_dest.specs.Usable.{destination_at}
use Rattle.lan_dest.specs.Attempts.{Counted, sends, verdict}

-- destination 1 of channel 1: acknowledged, type 000b, 3 seconds between transmissions, 2 retries; 10.0.0.9
abbrev kind : List ℕ
kind = 0x01 ∷ 0x80 ∷ 0x02 ∷ 0x02 ∷ []

abbrev address : List ℕ
address = 0x01 ∷ 0x00 ∷ 0x00 ∷ 10 ∷ 0 ∷ 0 ∷ 9 ∷ replicate 6 0

abbrev write : ℕ → ℕ → List ℕ → Write
write channel parameter payload = record { channel = channel; parameter = parameter; payload = payload }

abbrev set_up : Tables
set_up = value (write 1 18 kind ∷ write 1 19 address ∷ [])

-- the order of the checks of a write: channel, parameter, read only, length, selector, address format
pub codes_of_writes :
    (set_code 3 15 [] ≡ 0xCC) × (set_code 1 15 [] ≡ 0x80) × (set_code 1 20 kind ≡ 0x80) × (set_code 1 17 [] ≡ 0x82)
    × (set_code 1 18 (0x05 ∷ []) ≡ 0xC7) × (set_code 1 18 (0x05 ∷ 0x80 ∷ 0x02 ∷ 0x02 ∷ []) ≡ 0xC9)
    × (set_code 2 19 (0x05 ∷ 0x10 ∷ replicate 11 0) ≡ 0xC9) × (set_code 2 19 (0x04 ∷ 0x10 ∷ replicate 11 0) ≡ 0xCC)
    × (set_code 2 19 (0xF4 ∷ 0x0F ∷ replicate 11 0) ≡ 0x00) × (set_code 1 16 (replicate 17 0x41) ≡ 0xC7)
codes_of_writes = (refl, refl, refl, refl, refl, refl, refl, refl, refl, refl)

-- where the revision alone is asked for, the selector isn't looked at; a selector is bits 3:0
pub replies :
    (get_reply set_up 0 15 9 true ≡ 0xCC ∷ []) × (get_reply set_up 1 15 9 true ≡ 0x80 ∷ []) × (get_reply set_up 1 18 9 true ≡ 0x00 ∷ 0x11 ∷ [])
    × (get_reply set_up 1 18 5 false ≡ 0xC9 ∷ []) × (get_reply set_up 1 17 9 false ≡ 0x00 ∷ 0x11 ∷ 0x04 ∷ [])
    × (get_reply set_up 1 18 0xF1 false ≡ 0x00 ∷ 0x11 ∷ kind) × (get_reply set_up 2 18 1 false ≡ 0x00 ∷ 0x11 ∷ 0x01 ∷ replicate 3 0)
    × (get_reply set_up 1 16 0 false ≡ 0x00 ∷ 0x11 ∷ filled 18 (codes "public"))
replies = (refl, refl, refl, refl, refl, refl, refl, refl)

abbrev ports : Ports
ports = record { pet = 162; oem1 = 1006; oem2 = 1007 }

pub usable : destination_at ports set_up 1 1 ≡ Some (record {
  to = record { ip = 10 ∷ 0 ∷ 0 ∷ 9 ∷ []; port = 162 };
  acknowledged = true;
  kind = 0;
  wait = 3;
  retries = 2;
  community = codes "public";
})
usable = refl

-- without an address, of another type, of another channel, and of a number above 4
pub unusable :
    (destination_at ports (value (write 1 18 kind ∷ [])) 1 1 ≡ None)
    × (destination_at ports (value (write 1 18 (0x01 ∷ 0x81 ∷ 0x02 ∷ 0x02 ∷ []) ∷ write 1 19 address ∷ [])) 1 1 ≡ None)
    × (destination_at ports set_up 2 1 ≡ None) × (destination_at ports set_up 3 1 ≡ None) × (destination_at ports set_up 1 5 ≡ None)
unusable = (refl, refl, refl, refl, refl)

-- power clears destination 0 alone
pub after_power :
    (powered set_up (at 1 18 1) ≡ 0x80 ∷ 0x02 ∷ 0x02 ∷ [])
    × (powered (value (write 2 18 (0x00 ∷ 0x80 ∷ 0x02 ∷ 0x02 ∷ []) ∷ [])) (at 2 18 0) ≡ replicate 3 0)
after_power = (refl, refl)

-- of that destination transmissions are due at ticks 0, 3 and 6
pub due : (sends 3 2 0 ≡ 1) × (sends 3 2 2 ≡ 1) × (sends 3 2 3 ≡ 2) × (sends 3 2 5 ≡ 2) × (sends 3 2 6 ≡ 3) × (sends 3 2 9 ≡ 3)
due = (refl, refl, refl, refl, refl, refl)

abbrev counted : Bool → ℕ → Bool → ℕ → Bool → Counted
counted acknowledged outcomes done ticks acked = record { acknowledged = acknowledged; wait = 3; retries = 2; outcomes = outcomes; done = done; ticks = ticks; acked = acked }

-- it fails at tick 9, and succeeds with an acknowledgement before
pub acknowledged_ends :
    (verdict (counted true 3 true 8 false) ≡ None) × (verdict (counted true 3 true 9 false) ≡ Some false)
    × (verdict (counted true 2 false 3 true) ≡ Some true)
acknowledged_ends = (refl, refl, refl)

-- an alert that isn't acknowledged makes all its transmissions, and then it succeeded if one of them was done
pub unacknowledged_ends :
    (verdict (counted false 2 true 6 false) ≡ None) × (verdict (counted false 3 true 6 false) ≡ Some true)
    × (verdict (counted false 3 false 6 false) ≡ Some false)
unacknowledged_ends = (refl, refl, refl)
