-- What is promised of answers.
use Rattle.std.specs.Prelude.{◌≡◌, ℕ, ◌≤◌, List, [], ◌∷◌, length, None, IsTrue}
use Rattle.board_core.specs.declared.step.Address.{Address}
use Rattle.board_core.specs.declared.step.Step.TheVariants.{Datagram}
use Rattle.asf_rmcp.specs.declared.packet.Packet.TheVariants.{Ping as PresencePing}
use Rattle.asf_rmcp.specs.declared.message.LanMessage.{LanMessage}
use Rattle.asf_rmcp.specs.Layout.{IsPing, IsLan}
use Rattle.asf_rmcp.specs.Writing.{lan_frame}
use Rattle.frame_answers.specs.declared.kind.FrameKind.TheVariants.{Ping, Command, Nothing}
use Rattle.frame_answers.specs.Asking.{is_pet_acknowledge}
use Rattle.frame_answers.specs.Answers.{Answered, answered, pong_replies, answer_to, asked_by, acknowledged}

-- at most two replies, and where there are two nothing is acknowledged
pub record IsShort (answer : Answered) : Type 0 where
  pub at_most : length answer.replies ≤ 2
  pub two : length answer.replies ≡ 2 → answer.ack ≡ None

abbrev pub AreShort : Type 0
AreShort = (from : Address) (octets : List ℕ) → IsShort (answered from octets)

-- what comes of octets by the layout that they have
pub record IsByLayout (from : Address) (octets : List ℕ) : Type 0 where
  pub ping :
      (sequence tag : ℕ)
      → IsPing octets sequence tag
      → answered from octets ≡ record { kind = Ping; replies = pong_replies from (PresencePing sequence tag); ack = None }
  pub command :
      (message : LanMessage)
      → IsLan octets message
      → IsTrue (is_pet_acknowledge message)
      → answered from octets
      ≡ record { kind = Command; replies = Datagram from (lan_frame (answer_to message)) ∷ []; ack = acknowledged (asked_by message) }
  pub nothing :
      ((sequence tag : ℕ) → ¬ (IsPing octets sequence tag))
      → ((message : LanMessage) → IsLan octets message → ¬ (IsTrue (is_pet_acknowledge message)))
      → answered from octets ≡ record { kind = Nothing; replies = []; ack = None }

abbrev pub AreByLayout : Type 0
AreByLayout = (from : Address) (octets : List ℕ) → IsByLayout from octets
