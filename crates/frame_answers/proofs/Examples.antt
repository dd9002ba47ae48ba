-- The definition on frames, octet by octet: pings, the request PET Acknowledge, and frames that have no effect.
use Rattle.std.proofs.Common.{◌≡◌, ℕ, List, [], ◌∷◌, ◌++◌, Some, None, refl}
use Rattle.board_core.specs.declared.step.Address.{Address}
use Rattle.board_core.specs.declared.step.Step.TheVariants.{Datagram}
use Rattle.frame_answers.specs.declared.kind.FrameKind.TheVariants.{Ping, Command, Nothing}
use Rattle.frame_answers.specs.Answers.{Answered, answered}

abbrev from : Address
from = record { ip = 10 ∷ 0 ∷ 0 ∷ 9 ∷ []; port = 623 }

-- a ping with this sequence number and this tag, and the pong with this tag
abbrev ping : ℕ → ℕ → List ℕ
ping sequence tag = 0x06 ∷ 0x00 ∷ sequence ∷ 0x06 ∷ 0x00 ∷ 0x00 ∷ 0x11 ∷ 0xBE ∷ 0x80 ∷ tag ∷ 0x00 ∷ 0x00 ∷ []

abbrev pong : ℕ → List ℕ
pong tag =
    0x06 ∷ 0x00 ∷ 0xFF ∷ 0x06 ∷ 0x00 ∷ 0x00 ∷ 0x11 ∷ 0xBE ∷ 0x40 ∷ tag ∷ 0x00 ∷ 0x10
    ∷ 0x00 ∷ 0x00 ∷ 0x11 ∷ 0xBE ∷ 0x00 ∷ 0x00 ∷ 0x00 ∷ 0x00 ∷ 0x81 ∷ 0x00 ∷ 0x00 ∷ 0x00 ∷ 0x00 ∷ 0x00 ∷ 0x00 ∷ 0x00 ∷ []

pings :
    (answered from (ping 0xFF 0x00) ≡ record { kind = Ping; replies = Datagram from (pong 0x00) ∷ []; ack = None })
    × (answered from (ping 0x05 0x07)
    ≡ record { kind = Ping; replies = Datagram from (0x06 ∷ 0x00 ∷ 0x05 ∷ 0x86 ∷ []) ∷ Datagram from (pong 0x07) ∷ []; ack = None })
pings = (refl, refl)

-- the request for the trap of a fan, with its sequence number, the first checksum and the command to be chosen, and the last checksum
abbrev request : ℕ → ℕ → ℕ → ℕ → List ℕ
request sequence first command last =
    0x06 ∷ 0x00 ∷ sequence ∷ 0x07 ∷ 0x00 ∷ 0x00 ∷ 0x00 ∷ 0x00 ∷ 0x00 ∷ 0x00 ∷ 0x00 ∷ 0x00 ∷ 0x00 ∷ 0x13
    ∷ 0x20 ∷ 0x10 ∷ first ∷ 0x81 ∷ 0x04 ∷ command ∷ 0x01 ∷ 0x00 ∷ 0x80 ∷ 0xED ∷ 0xEF ∷ 0x06 ∷ 0x20 ∷ 0x20 ∷ 0x30 ∷ 0x52 ∷ 0x10 ∷ 0x20 ∷ last ∷ []

-- its answer
abbrev answer : List ℕ
answer =
    0x06 ∷ 0x00 ∷ 0xFF ∷ 0x07 ∷ 0x00 ∷ 0x00 ∷ 0x00 ∷ 0x00 ∷ 0x00 ∷ 0x00 ∷ 0x00 ∷ 0x00 ∷ 0x00 ∷ 0x08
    ∷ 0x81 ∷ 0x14 ∷ 0x6B ∷ 0x20 ∷ 0x04 ∷ 0x17 ∷ 0x00 ∷ 0xC5 ∷ []

abbrev carried_out : Answered
carried_out = record {
  kind = Command;
  replies = Datagram from answer ∷ [];
  ack = Some (record {
    sequence = 1;
    timestamp = 116387200;
    event_source = 0x20;
    device = 0x20;
    sensor = 0x30;
    event_data = 0x52 ∷ 0x10 ∷ 0x20 ∷ [];
  });
}

-- whatever the sequence number of the frame is, and with a pad
requests :
    (answered from (request 0xFF 0xD0 0x17 0x0F) ≡ carried_out) × (answered from (request 0x05 0xD0 0x17 0x0F) ≡ carried_out)
    × (answered from (request 0xFF 0xD0 0x17 0x0F ++ 0xA5 ∷ []) ≡ carried_out)
requests = (refl, refl, refl)

-- without a payload
abbrev bare_request : List ℕ
bare_request =
    0x06 ∷ 0x00 ∷ 0xFF ∷ 0x07 ∷ 0x00 ∷ 0x00 ∷ 0x00 ∷ 0x00 ∷ 0x00 ∷ 0x00 ∷ 0x00 ∷ 0x00 ∷ 0x00 ∷ 0x07
    ∷ 0x20 ∷ 0x10 ∷ 0xD0 ∷ 0x81 ∷ 0x04 ∷ 0x17 ∷ 0x64 ∷ []

-- C7h: the length of the payload isn't 12
abbrev refusal : List ℕ
refusal =
    0x06 ∷ 0x00 ∷ 0xFF ∷ 0x07 ∷ 0x00 ∷ 0x00 ∷ 0x00 ∷ 0x00 ∷ 0x00 ∷ 0x00 ∷ 0x00 ∷ 0x00 ∷ 0x00 ∷ 0x08
    ∷ 0x81 ∷ 0x14 ∷ 0x6B ∷ 0x20 ∷ 0x04 ∷ 0x17 ∷ 0xC7 ∷ 0xFE ∷ []

refused : answered from bare_request ≡ record { kind = Command; replies = Datagram from refusal ∷ []; ack = None }
refused = refl

-- a wrong checksum, another command, a pong and an acknowledgement
abbrev nothing : Answered
nothing = record { kind = Nothing; replies = []; ack = None }

without_effect :
    (answered from (request 0xFF 0xD1 0x17 0x0F) ≡ nothing) × (answered from (request 0xFF 0xD0 0x17 0x10) ≡ nothing)
    × (answered from (request 0xFF 0xD0 0x16 0x10) ≡ nothing) × (answered from (pong 0x00) ≡ nothing)
    × (answered from (0x06 ∷ 0x00 ∷ 0x05 ∷ 0x86 ∷ []) ≡ nothing)
without_effect = (refl, refl, refl, refl, refl)
