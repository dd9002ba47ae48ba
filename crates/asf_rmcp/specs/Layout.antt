-- The layouts of RMCP frames: ASF 2.0, section 3.2, and IPMI 2.0, chapter 13, for LAN messages without authentication.
-- An octet that has a name may have any value, but for what is said of it.
use Rattle.std.specs.Prelude.{◌≡◌, ◌⊎◌, ℕ, ◌+◌, ◌%◌, ◌<◌, ◌≤◌, List, [], ◌∷◌, length, sum, replicate}
use Rattle.std.specs.List.{concat}
use Rattle.asf_rmcp.specs.declared.packet.Packet.{Packet}
use Rattle.asf_rmcp.specs.declared.packet.Packet.TheVariants.{Ack, Ping, Pong, Ipmi}
use Rattle.asf_rmcp.specs.declared.message.LanMessage.{LanMessage}

-- the header: version 06h, a reserved octet, the sequence number and the class octet
abbrev pub header : ℕ → ℕ → ℕ → List ℕ
header reserved sequence class = 6 ∷ reserved ∷ sequence ∷ class ∷ []

-- the classes: 6 is ASF and 7 is IPMI
abbrev pub IsClass : ℕ → Type 0
IsClass class = (class ≡ 6) ⊎ (class ≡ 7)

-- an acknowledgement is the header alone: bit 7 of its class octet is 1, and bits 6:0 are the class
pub record IsAck (octets : List ℕ) (sequence class : ℕ) : Type 0 where
  pub is_class : IsClass class
  pub reserved : ℕ
  pub class_octet : ℕ
  pub bit_7 : 128 ≤ class_octet
  pub low_bits : class_octet % 128 ≡ class
  pub parts : octets ≡ header reserved sequence class_octet

-- 4542, the enterprise number of ASF, the most significant octet first
abbrev pub asf_enterprise : List ℕ
asf_enterprise = 0x00 ∷ 0x00 ∷ 0x11 ∷ 0xBE ∷ []

-- what stands behind the enterprise in an ASF message: its type, its tag, a reserved octet and the length of its data
abbrev pub asf_head : ℕ → ℕ → ℕ → ℕ → List ℕ
asf_head kind tag reserved data_length = kind ∷ tag ∷ reserved ∷ data_length ∷ []

-- a presence ping is an ASF message of type 80h without data
pub record IsPing (octets : List ℕ) (sequence tag : ℕ) : Type 0 where
  pub reserved : ℕ
  pub other : ℕ
  pub parts : octets ≡ concat (header reserved sequence 6 ∷ asf_enterprise ∷ asf_head 0x80 tag other 0 ∷ [])

-- A presence pong is an ASF message of type 40h with 16 octets of data: four octets for the enterprise and four for the
-- OEM, the supported entities, the supported interactions and six reserved octets.
pub record IsPong (octets : List ℕ) (sequence tag entities : ℕ) : Type 0 where
  pub reserved : ℕ
  pub other : ℕ
  pub before : List ℕ
  pub behind : List ℕ
  pub eight : length before ≡ 8
  pub seven : length behind ≡ 7
  pub parts : octets ≡ concat (header reserved sequence 6 ∷ asf_enterprise ∷ asf_head 0x40 tag other 16 ∷ before ∷ (entities ∷ []) ∷ behind ∷ [])

-- of a frame of class 7 the header alone is looked at
pub record IsIpmi (octets : List ℕ) (sequence : ℕ) : Type 0 where
  pub reserved : ℕ
  pub message : List ℕ
  pub parts : octets ≡ concat (header reserved sequence 7 ∷ message ∷ [])

-- the octets are a frame that says this
abbrev pub IsPacket : List ℕ → Packet → Type 0
IsPacket octets (Ack sequence class) = IsAck octets sequence class
IsPacket octets (Ping sequence tag) = IsPing octets sequence tag
IsPacket octets (Pong sequence tag entities) = IsPong octets sequence tag entities
IsPacket octets (Ipmi sequence) = IsIpmi octets sequence

-- ---- LAN messages

-- the octet that makes the sum 0 modulo 256
pub record IsChecksum (part : List ℕ) (checksum : ℕ) : Type 0 where
  pub octet : checksum < 256
  pub zero_sum : (sum part + checksum) % 256 ≡ 0

-- a LAN message: the addressee and the network function, their checksum, then the rest and the checksum of that
pub record IsMessage (octets : List ℕ) (message : LanMessage) : Type 0 where
  pub first : ℕ
  pub second : ℕ
  pub is_first : IsChecksum (message.to ∷ message.netfn_lun ∷ []) first
  pub is_second : IsChecksum (message.sender ∷ message.seq_lun ∷ message.cmd ∷ message.payload) second
  pub few : length message.payload ≤ 64
  pub parts : octets ≡ concat ((message.to ∷ message.netfn_lun ∷ first ∷ []) ∷ (message.sender ∷ message.seq_lun ∷ message.cmd ∷ message.payload) ∷ (second ∷ []) ∷ [])

-- authentication type 0 (none), and four octets for the session's sequence number and four for its ID, all 0
abbrev pub no_session : List ℕ
no_session = replicate 9 0

-- a frame of class 7 that carries a LAN message outside a session, with at most one octet behind it
pub record IsLan (octets : List ℕ) (message : LanMessage) : Type 0 where
  pub reserved : ℕ
  pub sequence : ℕ
  pub carried : List ℕ
  pub pad : List ℕ
  pub is_message : IsMessage carried message
  pub pads : length pad ≤ 1
  pub parts : octets ≡ concat (header reserved sequence 7 ∷ no_session ∷ (length carried ∷ []) ∷ carried ∷ pad ∷ [])
