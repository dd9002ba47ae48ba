-- What Set and Get LAN Configuration Parameters answer: IPMI 2.0, sections 23.1 and 23.2. Which codes come, and in which order they are
-- looked for, is this project's choice.
use Rattle.std.specs.Prelude.{◌≡◌, ◌≢◌, ℕ, ◌+◌, Bool, not, ◌==◌, ◌&&◌, nat_le, if◌then◌else◌, List, [], ◌∷◌, length}
use Rattle.lan_dest.specs.Octets.{octet, bits}
use Rattle.lan_dest.specs.declared.lan.Lan.{Lan}
use Rattle.lan_dest.specs.Kept.{kept}
use Rattle.lan_dest.specs.Parameters.{Tables, at, is_channel, has_selector, is_selector, width, written}

-- 16 to 19: community string, number of destinations, destination type, destination address
abbrev pub is_parameter : ℕ → Bool
is_parameter parameter = nat_le 16 parameter && nat_le parameter 19

abbrev pub payload_length : ℕ → ℕ
payload_length parameter = if has_selector parameter then 1 + width parameter else width parameter

-- the selector is bits 3:0 of the first octet; the address format is bits 7:4 of the second, and 0h is IPv4
abbrev pub set_code : ℕ → ℕ → List ℕ → ℕ
set_code channel parameter payload =
    if not (is_channel channel) then 0xCC
    else (if not (is_parameter parameter) then 0x80
    else (if parameter == 17 then 0x82
    else (if not (length payload == payload_length parameter) then 0xC7
    else (if has_selector parameter && not (is_selector (bits 3 0 (octet 1 payload))) then 0xC9
    else (if (parameter == 19) && not (bits 7 4 (octet 2 payload) == 0) then 0xCC
    else 0x00)))))

-- What setting a parameter does: it answers that code, on 00h the parameter is written, and on another code nothing changes.
pub record Sets (channel parameter : ℕ) (payload : List ℕ) (old new : Lan) (code : ℕ) : Type 0 where
  pub answered : code ≡ set_code channel parameter payload
  pub accepted : code ≡ 0 → kept new ≡ written (record { channel = channel; parameter = parameter; payload = payload }) (kept old)
  pub refused : code ≢ 0 → new ≡ old

-- a parameter as it is read: the number of destinations is 4, beside destination 0
abbrev pub lan_octets : Tables → ℕ → ℕ → ℕ → List ℕ
lan_octets tables channel parameter selector =
    if parameter == 16 then tables (at channel 16 0)
    else (if parameter == 17 then 4 ∷ [] else selector ∷ tables (at channel parameter selector))

-- where the revision alone is asked for, the selector isn't looked at
abbrev pub get_code : ℕ → ℕ → ℕ → Bool → ℕ
get_code channel parameter set revision_only =
    if not (is_channel channel) then 0xCC
    else (if not (is_parameter parameter) then 0x80
    else (if revision_only then 0x00
    else (if has_selector parameter && not (is_selector (bits 3 0 set)) then 0xC9
    else 0x00)))

-- the code, and on 00h the revision 11h and, unless the revision alone is asked for, the parameter
abbrev pub get_reply : Tables → ℕ → ℕ → ℕ → Bool → List ℕ
get_reply tables channel parameter set revision_only =
    if get_code channel parameter set revision_only == 0
    then 0x00 ∷ 0x11 ∷ (if revision_only then [] else lan_octets tables channel parameter (bits 3 0 set))
    else get_code channel parameter set revision_only ∷ []
