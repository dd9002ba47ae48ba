-- What is written has the layouts.
use Rattle.std.proofs.Common.{◌≡◌, ℕ, ◌+◌, ◌≤◌, List, [], ◌∷◌, ◌++◌, length, refl, sym, subst, inl, inr, append-nil, length-append, arith}
use Rattle.asf_rmcp.specs.declared.packet.Packet.{Packet}
use Rattle.asf_rmcp.specs.declared.packet.Packet.TheVariants.{Ack, Ping, Pong, Ipmi}
use Rattle.asf_rmcp.specs.declared.message.LanMessage.{LanMessage}
use Rattle.asf_rmcp.specs.Layout.{IsPacket, IsLan, asf_enterprise}
use Rattle.asf_rmcp.specs.Writing.{IsWritable, frame_of, lan_frame, head_of, rest_of}
use Rattle.asf_rmcp.specs.Refusals.{checksum_of}
use Rattle.asf_rmcp.proofs.Checksums.{is_checksum}

pub is_frame : (packet : Packet) → IsWritable packet → IsPacket (frame_of packet) packet
is_frame (Ack s class) (inl is) =
    subst (λ (class : ℕ). IsPacket (frame_of (Ack s class)) (Ack s class)) (sym is) (record { is_class = inl refl; reserved = 0; class_octet = 134; bit_7 = omega arith; low_bits = refl; parts = refl })
is_frame (Ack s class) (inr is) =
    subst (λ (class : ℕ). IsPacket (frame_of (Ack s class)) (Ack s class)) (sym is) (record { is_class = inr refl; reserved = 0; class_octet = 135; bit_7 = omega arith; low_bits = refl; parts = refl })
is_frame (Ping s t) h = record { reserved = 0; other = 0; parts = refl }
is_frame (Pong s t entities) h = record {
  reserved = 0;
  other = 0;
  before = asf_enterprise ++ (0 ∷ 0 ∷ 0 ∷ 0 ∷ []);
  behind = 0 ∷ 0 ∷ 0 ∷ 0 ∷ 0 ∷ 0 ∷ 0 ∷ [];
  eight = refl;
  seven = refl;
  parts = refl;
}
is_frame (Ipmi s) h = absurd h

-- the octets of the message in its frame
message_octets : LanMessage → List ℕ
message_octets m = m.to ∷ m.netfn_lun ∷ checksum_of (head_of m) ∷ m.sender ∷ m.seq_lun ∷ m.cmd ∷ (m.payload ++ checksum_of (rest_of m) ∷ [])

size : (m : LanMessage) → length (message_octets m) ≡ 7 + length m.payload
unfolding message_octets
size m = rw length-append (omega arith)

pub is_lan_frame : (m : LanMessage) → length m.payload ≤ 64 → IsLan (lan_frame m) m
unfolding message_octets
is_lan_frame m few = record {
  reserved = 0;
  sequence = 0xFF;
  carried = message_octets m;
  pad = [];
  is_message = record {
    first = checksum_of (head_of m);
    second = checksum_of (rest_of m);
    is_first = is_checksum (head_of m);
    is_second = is_checksum (rest_of m);
    few = few;
    parts = refl;
  };
  pads = omega arith;
  parts = rw (size m, append-nil (message_octets m)) refl;
}

pub lan_frame_length : (m : LanMessage) → length (lan_frame m) ≡ 21 + length m.payload
lan_frame_length m = simp length-append (omega arith)
