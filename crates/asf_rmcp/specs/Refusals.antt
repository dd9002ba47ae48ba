-- Why octets are no frame, and where. The octets are read in groups: of each group it is asked first whether the octets end
-- before its last one. The rows stand in the order in which they are asked, and the first that applies counts.
use Rattle.std.specs.Prelude.{◌≡◌, ℕ, ◌+◌, ◌-◌, ◌%◌, Bool, not, ◌&&◌, ◌||◌, List, [], ◌∷◌, length, take, drop, sum, replicate, slice_index, slice_range, nat_lt, ◌==◌, bytes_eq, if◌then◌else◌, Option, Some, None}
use Rattle.std.specs.Option.{option_or}
use Rattle.asf_rmcp.specs.declared.fault.FrameFault.{FrameFault}
use Rattle.asf_rmcp.specs.declared.fault.FrameWhy.{FrameWhy}
use Rattle.asf_rmcp.specs.declared.fault.FrameWhy.TheVariants.{Short, Version, Class, Enterprise, Kind, Auth, Session, Length, Trailing, Checksum}
use Rattle.asf_rmcp.specs.Layout.{asf_enterprise}

-- whether a row applies, and what is said where it does
pub record Row : Type 0 where
  pub applies : Bool
  pub why : FrameWhy
  pub at : ℕ

abbrev pub row : Bool → FrameWhy → ℕ → Row
row applies why at = record { applies = applies; why = why; at = at }

abbrev pub fault : ℕ → FrameWhy → FrameFault
fault at why = record { at = at; why = why }

-- what the first row says that applies
abbrev pub first : List Row → Option FrameFault
first [] = None
first (row ∷ rows) = if row.applies then Some (fault row.at row.why) else first rows

-- the group that ends before this place isn't there whole
abbrev pub short : List ℕ → ℕ → Row
short octets end = row (nat_lt (length octets) end) Short (length octets)

-- octets stand from this place on, where none are accepted
abbrev pub trailing : List ℕ → ℕ → Row
trailing octets end = row (nat_lt end (length octets)) Trailing end

-- the version, and the class, which bits 6:0 of octet 3 are
abbrev pub header_rows : List ℕ → List Row
header_rows octets =
    short octets 1
    ∷ row (not (slice_index octets 0 == 6)) Version 0
    ∷ short octets 4
    ∷ row (not (class == 6) && not (class == 7)) Class 3
    ∷ []
  where
    class : ℕ
    class = slice_index octets 3 % 128

-- an acknowledgement has nothing behind its header
abbrev pub ack_rows : List ℕ → List Row
ack_rows octets = trailing octets 4 ∷ []

-- how much data a ping and a pong have
abbrev pub data_length : ℕ → ℕ
data_length kind = if kind == 0x40 then 16 else 0

-- the enterprise, the type, the length and the data of an ASF message
abbrev pub asf_rows : List ℕ → List Row
asf_rows octets =
    short octets 8
    ∷ row (not (bytes_eq (slice_range octets 4 8) asf_enterprise)) Enterprise 4
    ∷ short octets 9
    ∷ row (not (kind == 0x80) && not (kind == 0x40)) Kind 8
    ∷ short octets 12
    ∷ row (not (slice_index octets 11 == data_length kind)) Length 11
    ∷ short octets (12 + data_length kind)
    ∷ trailing octets (12 + data_length kind)
    ∷ []
  where
    kind : ℕ
    kind = slice_index octets 8

-- what follows the header: of an acknowledgement, whose bit 7 of octet 3 is 1, of an IPMI frame and of an ASF message
abbrev pub class_rows : List ℕ → List Row
class_rows octets = if nat_lt 127 (slice_index octets 3) then ack_rows octets else if slice_index octets 3 == 7 then [] else asf_rows octets

abbrev pub packet_fault : List ℕ → Option FrameFault
packet_fault octets = option_or (first (header_rows octets)) (first (class_rows octets))

-- the octets are refused as a frame for this, at this place
abbrev pub RefusedPacket : List ℕ → FrameWhy → ℕ → Type 0
RefusedPacket octets why at = packet_fault octets ≡ Some (fault at why)

-- ---- LAN messages

-- the class octet of a message, no authentication, no session, the message's length n, and then the n octets
abbrev pub lan_rows : List ℕ → List Row
lan_rows octets =
    row (not (slice_index octets 3 == 7)) Class 3
    ∷ short octets 5
    ∷ row (not (slice_index octets 4 == 0)) Auth 4
    ∷ short octets 13
    ∷ row (not (bytes_eq (slice_range octets 5 13) (replicate 8 0))) Session 5
    ∷ short octets 14
    ∷ row (nat_lt n 7 || nat_lt 71 n) Length 13
    ∷ short octets (14 + n)
    ∷ trailing octets (15 + n)
    ∷ []
  where
    n : ℕ
    n = slice_index octets 13

-- the message, which begins at place 14
abbrev pub message_of : List ℕ → List ℕ
message_of octets = take (slice_index octets 13) (drop 14 octets)

-- the octet that makes the sum 0 modulo 256
abbrev pub checksum_of : List ℕ → ℕ
checksum_of part = (256 - sum part % 256) % 256

-- a checksum at a place, of the octets that it stands for
abbrev pub checked : ℕ → ℕ → List ℕ → Row
checked at have part = row (not (have == checksum_of part)) (Checksum (checksum_of part) have) at

-- the checksum of a message's first two octets, and that of all between it and the last octet
abbrev pub message_rows : List ℕ → List Row
message_rows message =
    checked 16 (slice_index message 2) (slice_range message 0 2)
    ∷ checked (14 + last) (slice_index message last) (slice_range message 3 last)
    ∷ []
  where
    last : ℕ
    last = length message - 1

abbrev pub lan_fault : List ℕ → Option FrameFault
lan_fault octets = option_or (first (header_rows octets)) (option_or (first (lan_rows octets)) (first (message_rows (message_of octets))))

-- the octets are refused as a LAN message for this, at this place
abbrev pub RefusedLan : List ℕ → FrameWhy → ℕ → Type 0
RefusedLan octets why at = lan_fault octets ≡ Some (fault at why)
