-- Where the fields stand in octets that aren't refused. The layouts don't know it.
use Rattle.std.specs.Prelude.{ℕ, ◌-◌, ◌%◌, List, length, slice_index, slice_range, nat_lt, ◌==◌, if◌then◌else◌}
use Rattle.asf_rmcp.specs.declared.packet.Packet.{Packet}
use Rattle.asf_rmcp.specs.declared.packet.Packet.TheVariants.{Ack, Ping, Pong, Ipmi}
use Rattle.asf_rmcp.specs.declared.message.LanMessage.{LanMessage}
use Rattle.asf_rmcp.specs.Refusals.{message_of}

abbrev pub asf_in : List ℕ → Packet
asf_in octets =
    if slice_index octets 8 == 0x40
    then Pong (slice_index octets 2) (slice_index octets 9) (slice_index octets 20)
    else Ping (slice_index octets 2) (slice_index octets 9)

abbrev pub packet_in : List ℕ → Packet
packet_in octets =
    if nat_lt 127 (slice_index octets 3)
    then Ack (slice_index octets 2) (slice_index octets 3 % 128)
    else if slice_index octets 3 == 7 then Ipmi (slice_index octets 2) else asf_in octets

abbrev pub message_in : List ℕ → LanMessage
message_in message = record {
  to = slice_index message 0;
  netfn_lun = slice_index message 1;
  sender = slice_index message 3;
  seq_lun = slice_index message 4;
  cmd = slice_index message 5;
  payload = slice_range message 6 (length message - 1);
}

abbrev pub lan_in : List ℕ → LanMessage
lan_in octets = message_in (message_of octets)
