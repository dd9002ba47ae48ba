-- What an RMCP frame asks of a management controller: ASF 2.0, section 3.2, and IPMI 2.0, chapter 13 and section 30.8.
use Rattle.std.specs.Prelude.{ℕ, Bool, true, false, ◌&&◌, ◌==◌, List, Option, Some, None}
use Rattle.asf_rmcp.specs.declared.fault.FrameFault.{FrameFault}
use Rattle.asf_rmcp.specs.declared.packet.Packet.{Packet}
use Rattle.asf_rmcp.specs.declared.packet.Packet.TheVariants.{Ack, Ping, Pong, Ipmi}
use Rattle.asf_rmcp.specs.declared.message.LanMessage.{LanMessage}
use Rattle.asf_rmcp.specs.Refusals.{packet_fault, lan_fault}
use Rattle.asf_rmcp.specs.Columns.{packet_in, lan_in}

-- octets without a fault are good
abbrev pub good : Option FrameFault → Bool
good None = true
good (Some fault) = false

abbrev pub is_presence_ping : Packet → Bool
is_presence_ping (Ping sequence tag) = true
is_presence_ping (Ack sequence class) = false
is_presence_ping (Pong sequence tag entities) = false
is_presence_ping (Ipmi sequence) = false

-- The request PET Acknowledge to the management controller: its address is 20h; network function 04h stands in bits 7:2, and 0 for the
-- logical unit below it; the command is 17h. The length of the payload isn't looked at here.
abbrev pub is_pet_acknowledge : LanMessage → Bool
is_pet_acknowledge message = (message.to == 0x20) && (message.netfn_lun == 0x10) && (message.cmd == 0x17)

abbrev pub asks_pong : List ℕ → Bool
asks_pong octets = good (packet_fault octets) && is_presence_ping (packet_in octets)

abbrev pub asks_command : List ℕ → Bool
asks_command octets = good (lan_fault octets) && is_pet_acknowledge (lan_in octets)
