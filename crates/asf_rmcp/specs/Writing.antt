-- The octets of the frames that are written: reserved octets are 0, and a frame that wants no acknowledgement has the sequence number FFh.
use Rattle.std.specs.Prelude.{ℕ, ◌+◌, ◌*◌, ◌%◌, List, [], ◌∷◌, length, replicate}
use Rattle.std.specs.List.{concat}
use Rattle.byteorder.specs.Endian.{little_bytes}
use Rattle.pet_body.specs.declared.ack.PetAck.{PetAck}
use Rattle.asf_rmcp.specs.declared.packet.Packet.{Packet}
use Rattle.asf_rmcp.specs.declared.packet.Packet.TheVariants.{Ack, Ping, Pong, Ipmi}
use Rattle.asf_rmcp.specs.declared.message.LanMessage.{LanMessage}
use Rattle.asf_rmcp.specs.Layout.{header, IsClass, asf_enterprise, asf_head, no_session}
use Rattle.asf_rmcp.specs.Refusals.{checksum_of}

-- what a frame without a message can say
abbrev pub IsWritable : Packet → Type 0
IsWritable (Ack sequence class) = IsClass class
IsWritable (Ping sequence tag) = Unit {0}
IsWritable (Pong sequence tag entities) = Unit {0}
IsWritable (Ipmi sequence) = ⊥

-- the octets of a frame
abbrev pub frame_of : Packet → List ℕ
frame_of (Ack sequence class) = header 0 sequence (128 + class)
frame_of (Ping sequence tag) = concat (header 0 sequence 6 ∷ asf_enterprise ∷ asf_head 0x80 tag 0 0 ∷ [])
frame_of (Pong sequence tag entities) =
    concat (header 0 sequence 6 ∷ asf_enterprise ∷ asf_head 0x40 tag 0 16 ∷ asf_enterprise ∷ replicate 4 0 ∷ (entities ∷ []) ∷ replicate 7 0 ∷ [])
frame_of (Ipmi sequence) = []

-- what the first checksum of a LAN message is for, and what the second one is for
abbrev pub head_of : LanMessage → List ℕ
head_of message = message.to ∷ message.netfn_lun ∷ []

abbrev pub rest_of : LanMessage → List ℕ
rest_of message = message.sender ∷ message.seq_lun ∷ message.cmd ∷ message.payload

-- the frame of a LAN message, whose length is that of the payload and 7 more
abbrev pub lan_frame : LanMessage → List ℕ
lan_frame message = concat (
    header 0 0xFF 7
    ∷ no_session
    ∷ ((7 + length message.payload) ∷ [])
    ∷ head_of message
    ∷ (checksum_of (head_of message) ∷ [])
    ∷ rest_of message
    ∷ (checksum_of (rest_of message) ∷ [])
    ∷ [])

-- The request PET Acknowledge (IPMI 2.0, section 30.8): from remote console software, 81h, to the management controller, 20h,
-- with network function 04h, which stands in bits 7:2. Its sequence number is the trap's, modulo 64 (this project's rule).
abbrev pub ack_message : PetAck → LanMessage
ack_message ack = record {
  to = 0x20;
  netfn_lun = 0x10;
  sender = 0x81;
  seq_lun = 4 * (ack.sequence % 64);
  cmd = 0x17;
  payload = concat (
      little_bytes 2 ack.sequence
      ∷ little_bytes 4 ack.timestamp
      ∷ (ack.event_source ∷ ack.device ∷ ack.sensor ∷ [])
      ∷ ack.event_data
      ∷ []);
}
