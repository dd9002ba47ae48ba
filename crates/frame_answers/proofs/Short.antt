-- How many replies there are.
use Rattle.std.proofs.Common.{◌≡◌, ℕ, ◌≤◌, Bool, true, false, List, [], ◌∷◌, ◌++◌, length, None, refl, arith}
use Rattle.std.specs.Prelude.{◌==◌, if◌then◌else◌}
use Rattle.board_core.specs.declared.step.Address.{Address}
use Rattle.board_core.specs.declared.step.Step.{Step}
use Rattle.asf_rmcp.specs.declared.packet.Packet.{Packet}
use Rattle.asf_rmcp.specs.declared.packet.Packet.TheVariants.{Ack, Ping as PresencePing, Pong, Ipmi}
use Rattle.asf_rmcp.specs.Columns.{packet_in}
use Rattle.frame_answers.specs.declared.kind.FrameKind.{FrameKind}
use Rattle.frame_answers.specs.declared.kind.FrameKind.TheVariants.{Ping, Command, Nothing}
use Rattle.frame_answers.specs.Answers.{kind_of, pong_replies, replies_to, ack_of}
use Rattle.frame_answers.specs.Laws.{AreShort}

one_or_two : (none : Bool) (ack pong : Step) → length ((if none then [] else ack ∷ []) ++ pong ∷ []) ≤ 2
one_or_two true ack pong = omega arith
one_or_two false ack pong = omega arith

pongs : (from : Address) (packet : Packet) → length (pong_replies from packet) ≤ 2
pongs from (PresencePing sequence tag) = one_or_two (sequence == 0xFF) _ _
pongs from (Ack sequence class) = omega arith
pongs from (Pong sequence tag entities) = omega arith
pongs from (Ipmi sequence) = omega arith

at_most : (kind : FrameKind) (from : Address) (octets : List ℕ) → length (replies_to kind from octets) ≤ 2
at_most Ping from octets = pongs from (packet_in octets)
at_most Command from octets = omega arith
at_most Nothing from octets = omega arith

two : (kind : FrameKind) (from : Address) (octets : List ℕ) → length (replies_to kind from octets) ≡ 2 → ack_of kind octets ≡ None
two Ping from octets e = refl
two Command from octets e = absurd (cc)
two Nothing from octets e = refl

pub are_short : AreShort
are_short from octets = record { at_most = at_most (kind_of octets) from octets; two = two (kind_of octets) from octets }
