-- The definitions on frames, octet by octet: a ping, its pong, an acknowledgement, and the request PET Acknowledge.
use Rattle.std.proofs.Common.{◌≡◌, ℕ, List, [], ◌∷◌, ◌++◌, take, refl}
use Rattle.pet_body.specs.declared.ack.PetAck.{PetAck}
use Rattle.asf_rmcp.specs.declared.packet.Packet.TheVariants.{Ack, Ping, Pong}
use Rattle.asf_rmcp.specs.declared.fault.FrameWhy.TheVariants.{Short, Auth, Length, Trailing, Checksum}
use Rattle.asf_rmcp.specs.Layout.{IsPacket, IsLan}
use Rattle.asf_rmcp.specs.Refusals.{RefusedPacket, RefusedLan}
use Rattle.asf_rmcp.specs.Writing.{frame_of, lan_frame, ack_message}
use Rattle.asf_rmcp.proofs.Packets.{packet_sound}
use Rattle.asf_rmcp.proofs.Lan.{lan_sound}

abbrev ping : List ℕ
ping = 0x06 ∷ 0x00 ∷ 0xFF ∷ 0x06 ∷ 0x00 ∷ 0x00 ∷ 0x11 ∷ 0xBE ∷ 0x80 ∷ 0x00 ∷ 0x00 ∷ 0x00 ∷ []

abbrev pong : List ℕ
pong =
    0x06 ∷ 0x00 ∷ 0xFF ∷ 0x06 ∷ 0x00 ∷ 0x00 ∷ 0x11 ∷ 0xBE ∷ 0x40 ∷ 0x00 ∷ 0x00 ∷ 0x10
    ∷ 0x00 ∷ 0x00 ∷ 0x11 ∷ 0xBE ∷ 0x00 ∷ 0x00 ∷ 0x00 ∷ 0x00 ∷ 0x81 ∷ 0x00 ∷ 0x00 ∷ 0x00 ∷ 0x00 ∷ 0x00 ∷ 0x00 ∷ 0x00 ∷ []

pings : IsPacket ping (Ping 0xFF 0) × IsPacket pong (Pong 0xFF 0 0x81) × IsPacket (0x06 ∷ 0x00 ∷ 0x05 ∷ 0x86 ∷ []) (Ack 5 6)
pings = (packet_sound ping refl, packet_sound pong refl, packet_sound (0x06 ∷ 0x00 ∷ 0x05 ∷ 0x86 ∷ []) refl)

written : (frame_of (Ping 0xFF 0) ≡ ping) × (frame_of (Pong 0xFF 0 0x81) ≡ pong) × (frame_of (Ack 5 6) ≡ 0x06 ∷ 0x00 ∷ 0x05 ∷ 0x86 ∷ [])
written = (refl, refl, refl)

-- a pong cut in its data, one with an octet more, and an acknowledgement with one
refused_frames : RefusedPacket (take 27 pong) Short 27 × RefusedPacket (pong ++ 0 ∷ []) Trailing 28 × RefusedPacket (0x06 ∷ 0x00 ∷ 0x05 ∷ 0x86 ∷ 0x00 ∷ []) Trailing 4
refused_frames = (refl, refl, refl)

-- the trap of a fan, with sequence number 1
abbrev ack : PetAck
ack = record {
  sequence = 1;
  timestamp = 116387200;
  event_source = 0x20;
  device = 0x20;
  sensor = 0x30;
  event_data = 0x52 ∷ 0x10 ∷ 0x20 ∷ [];
}

-- its request, with octet 4, octet 13 and octet 16 to be chosen
abbrev request_with : ℕ → ℕ → ℕ → List ℕ
request_with auth length checksum =
    0x06 ∷ 0x00 ∷ 0xFF ∷ 0x07 ∷ auth ∷ 0x00 ∷ 0x00 ∷ 0x00 ∷ 0x00 ∷ 0x00 ∷ 0x00 ∷ 0x00 ∷ 0x00 ∷ length
    ∷ 0x20 ∷ 0x10 ∷ checksum ∷ 0x81 ∷ 0x04 ∷ 0x17 ∷ 0x01 ∷ 0x00 ∷ 0x80 ∷ 0xED ∷ 0xEF ∷ 0x06 ∷ 0x20 ∷ 0x20 ∷ 0x30 ∷ 0x52 ∷ 0x10 ∷ 0x20 ∷ 0x0F ∷ []

abbrev request : List ℕ
request = request_with 0 0x13 0xD0

acknowledged : lan_frame (ack_message ack) ≡ request
acknowledged = refl

-- it is read, also with one octet behind it
requests : IsLan request (ack_message ack) × IsLan (request ++ 0xA5 ∷ []) (ack_message ack)
requests = (lan_sound request refl, lan_sound (request ++ 0xA5 ∷ []) refl)

refused_messages :
    RefusedLan (request_with 1 0x13 0xD0) Auth 4 × RefusedLan (request_with 0 6 0xD0) Length 13 × RefusedLan (request_with 0 0x13 0xD1) (Checksum 0xD0 0xD1) 16
    × RefusedLan (request ++ 0 ∷ 0 ∷ []) Trailing 34 × RefusedLan (take 32 request) Short 32
refused_messages = (refl, refl, refl, refl, refl)
