-- What comes of octets by the layout that they have.
use Rattle.std.proofs.Common.{◌≡◌, ℕ, Bool, true, false, ◌&&◌, List, [], ◌∷◌, length, append-nil, Option, Some, None, refl, subst, ap, ◌∙◌}
use Rattle.std.specs.Prelude.{IsTrue}
use Rattle.std.specs.List.{concat}
use Rattle.board_core.specs.declared.step.Address.{Address}
use Rattle.board_core.specs.declared.step.Step.TheVariants.{Datagram}
use Rattle.asf_rmcp.specs.declared.fault.FrameFault.{FrameFault}
use Rattle.asf_rmcp.specs.declared.packet.Packet.{Packet}
use Rattle.asf_rmcp.specs.declared.packet.Packet.TheVariants.{Ack, Ping, Pong, Ipmi}
use Rattle.asf_rmcp.specs.declared.message.LanMessage.{LanMessage}
use Rattle.asf_rmcp.specs.Layout.{no_session, IsPacket, IsPing, IsLan}
use Rattle.asf_rmcp.specs.Refusals.{packet_fault, lan_fault}
use Rattle.asf_rmcp.specs.Columns.{packet_in, lan_in}
use Rattle.asf_rmcp.specs.Writing.{lan_frame}
use Rattle.asf_rmcp.proofs.Answered.{packet_exact, lan_exact}
use Rattle.frame_answers.specs.declared.kind.FrameKind.TheVariants.{Ping as PingKind, Command}
use Rattle.frame_answers.specs.Asking.{good, is_presence_ping, is_pet_acknowledge, asks_pong, asks_command}
use Rattle.frame_answers.specs.Answers.{Answered, answered, pong_replies, answer_to, asked_by, acknowledged}
use Rattle.frame_answers.specs.Laws.{AreByLayout}

-- a frame with a LAN message is of class 07h, so it is no ping
no_pong_of_message : (octets : List ℕ) (message : LanMessage) → IsLan octets message → asks_pong octets ≡ false
no_pong_of_message octets message is =
    let behind : List ℕ = concat (no_session ∷ (length is.carried ∷ []) ∷ is.carried ∷ is.pad ∷ []) in
    let ipmi = (packet_exact octets).complete (Ipmi is.sequence) (record { reserved = is.reserved; message = behind; parts = rw (append-nil behind) is.parts }) in
    rw (ipmi.0, ipmi.1) refl

no_pong : (octets : List ℕ) → ((sequence tag : ℕ) → ¬ (IsPing octets sequence tag)) → asks_pong octets ≡ false
no_pong octets none = cases (packet_fault octets) refl (packet_in octets) refl
  where
    cases : (fault : Option FrameFault) → packet_fault octets ≡ fault → (packet : Packet) → packet_in octets ≡ packet → (good fault && is_presence_ping packet) ≡ false
    cases (Some fault) e packet is = refl
    cases None e (Ping sequence tag) is = absurd (none sequence tag (subst (IsPacket octets) is ((packet_exact octets).sound e)))
    cases None e (Ack sequence class) is = refl
    cases None e (Pong sequence tag entities) is = refl
    cases None e (Ipmi sequence) is = refl

no_command : (octets : List ℕ) → ((message : LanMessage) → IsLan octets message → ¬ (IsTrue (is_pet_acknowledge message))) → asks_command octets ≡ false
no_command octets none = cases (lan_fault octets) refl (is_pet_acknowledge (lan_in octets)) refl
  where
    cases : (fault : Option FrameFault) → lan_fault octets ≡ fault → (asks : Bool) → is_pet_acknowledge (lan_in octets) ≡ asks → (good fault && asks) ≡ false
    cases (Some fault) e asks is = refl
    cases None e false is = refl
    cases None e true is = absurd (none (lan_in octets) ((lan_exact octets).sound e) is)

of_ping : (from : Address) (octets : List ℕ) (packet : Packet) → asks_pong octets ≡ true → packet_in octets ≡ packet
    → answered from octets ≡ record { kind = PingKind; replies = pong_replies from packet; ack = None }
of_ping from octets packet asks is = rw asks (ap (λ (p : Packet). record { kind = PingKind; replies = pong_replies from p; ack = None }) is)

abbrev commanded : Address → LanMessage → Answered
commanded from message = record { kind = Command; replies = Datagram from (lan_frame (answer_to message)) ∷ []; ack = acknowledged (asked_by message) }

of_command : (from : Address) (octets : List ℕ) (message : LanMessage) → asks_pong octets ≡ false → asks_command octets ≡ true → lan_in octets ≡ message
    → answered from octets ≡ commanded from message
of_command from octets message no_ping asks is = rw (no_ping, asks) (ap (commanded from) is)

asks_by_ping : (octets : List ℕ) (sequence tag : ℕ) → packet_fault octets ≡ None → packet_in octets ≡ Ping sequence tag → asks_pong octets ≡ true
asks_by_ping octets sequence tag none is = rw (none, is) refl

asks_by_message : (octets : List ℕ) (message : LanMessage) → lan_fault octets ≡ None → lan_in octets ≡ message → is_pet_acknowledge message ≡ true → asks_command octets ≡ true
asks_by_message octets message none is asks = rw none (ap is_pet_acknowledge is ∙ asks)

pub are_by_layout : AreByLayout
are_by_layout from octets = record {
  ping = λ sequence tag is.
      let found = (packet_exact octets).complete (Ping sequence tag) is in
      of_ping from octets (Ping sequence tag) (asks_by_ping octets sequence tag found.0 found.1) found.1;
  command = λ message is asks.
      let found = (lan_exact octets).complete message is in
      of_command from octets message (no_pong_of_message octets message is) (asks_by_message octets message found.0 found.1 asks) found.1;
  nothing = λ no_ping no_message. rw (no_pong octets no_ping, no_command octets no_message) refl;
}
