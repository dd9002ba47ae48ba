-- What a management controller answers to an RMCP frame, and which acknowledgement of a trap the frame carries. What is answered goes to
-- the frame's sender. That these frames are answered and no others, and how, is this project's rule.
use Rattle.std.specs.Prelude.{ℕ, ◌==◌, List, [], ◌∷◌, ◌++◌, Option, Some, None, Result, Ok, Err, if◌then◌else◌}
use Rattle.board_core.specs.declared.step.Address.{Address}
use Rattle.board_core.specs.declared.step.Step.{Step}
use Rattle.board_core.specs.declared.step.Step.TheVariants.{Datagram}
use Rattle.pet_body.specs.declared.ack.PetAck.{PetAck}
use Rattle.pef_commands.specs.declared.command.Command.{Command as PefCommand}
use Rattle.pef_commands.specs.declared.command.Command.TheVariants.{Acknowledge}
use Rattle.pef_commands.specs.Parsing.{parsed}
use Rattle.asf_rmcp.specs.declared.packet.Packet.{Packet}
use Rattle.asf_rmcp.specs.declared.packet.Packet.TheVariants.{Ack, Ping as PresencePing, Pong, Ipmi}
use Rattle.asf_rmcp.specs.declared.message.LanMessage.{LanMessage}
use Rattle.asf_rmcp.specs.Columns.{packet_in, lan_in}
use Rattle.asf_rmcp.specs.Writing.{frame_of, lan_frame}
use Rattle.frame_answers.specs.declared.kind.FrameKind.{FrameKind}
use Rattle.frame_answers.specs.declared.kind.FrameKind.TheVariants.{Ping, Command, Nothing}
use Rattle.frame_answers.specs.Asking.{asks_pong, asks_command}

-- a frame is of class 06h or of class 07h, so it asks for one of these at most
abbrev pub kind_of : List ℕ → FrameKind
kind_of octets = if asks_pong octets then Ping else if asks_command octets then Command else Nothing

-- the acknowledgement of a frame of class 06h, and none where its sequence number is FFh
abbrev pub rmcp_acks : Address → ℕ → List Step
rmcp_acks from sequence = if sequence == 0xFF then [] else Datagram from (frame_of (Ack sequence 6)) ∷ []

-- A ping is answered by a pong with its tag: entities 81h are IPMI and ASF 1.0, and FFh asks for no acknowledgement.
abbrev pub pong_replies : Address → Packet → List Step
pong_replies from (PresencePing sequence tag) = rmcp_acks from sequence ++ Datagram from (frame_of (Pong 0xFF tag 0x81)) ∷ []
pong_replies from (Ack sequence class) = []
pong_replies from (Pong sequence tag entities) = []
pong_replies from (Ipmi sequence) = []

-- the command of a request PET Acknowledge, by the rule of every request with network function 04h and command 17h
abbrev pub asked_by : LanMessage → Result PefCommand ℕ
asked_by message = parsed (record { netfn = 0x04; cmd = 0x17; payload = message.payload })

-- completion code 00h where the command is carried out, else the code that refuses it
abbrev pub completion : Result PefCommand ℕ → ℕ
completion (Ok command) = 0x00
completion (Err code) = code

-- a response: the addresses exchanged, network function 05h, the request's sequence octet and command, and a completion code
abbrev pub response_to : LanMessage → ℕ → LanMessage
response_to request code = record {
  to = request.sender;
  netfn_lun = 0x14;
  sender = request.to;
  seq_lun = request.seq_lun;
  cmd = request.cmd;
  payload = code ∷ [];
}

abbrev pub answer_to : LanMessage → LanMessage
answer_to request = response_to request (completion (asked_by request))

abbrev pub ack_in : PefCommand → Option PetAck
ack_in (Acknowledge ack) = Some ack
ack_in _ = None

-- the acknowledgement that is carried out
abbrev pub acknowledged : Result PefCommand ℕ → Option PetAck
acknowledged (Ok command) = ack_in command
acknowledged (Err code) = None

abbrev pub replies_to : FrameKind → Address → List ℕ → List Step
replies_to Ping from octets = pong_replies from (packet_in octets)
replies_to Command from octets = Datagram from (lan_frame (answer_to (lan_in octets))) ∷ []
replies_to Nothing from octets = []

abbrev pub ack_of : FrameKind → List ℕ → Option PetAck
ack_of Ping octets = None
ack_of Command octets = acknowledged (asked_by (lan_in octets))
ack_of Nothing octets = None

-- what a frame asks, the datagrams that answer it, in order, and the acknowledgement that it carries
pub record Answered : Type 0 where
  pub kind : FrameKind
  pub replies : List Step
  pub ack : Option PetAck

abbrev pub answered : Address → List ℕ → Answered
answered from octets = record {
  kind = kind_of octets;
  replies = replies_to (kind_of octets) from octets;
  ack = ack_of (kind_of octets) octets;
}
