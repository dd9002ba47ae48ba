use Rattle.asf_rmcp.proofs.Answered.{packet_exact, is_value, every_value}
use Rattle.asf_rmcp.proofs.packet.Packet.read.Goals as goal

pub returns-clause-packet : goal.returns-clause-packet
returns-clause-packet c = is_value _ _ _ c.packet.result (packet_exact c.args.octets.now) c.packet.ensures.refused c.packet.ensures.packet

pub returns-clause-every_packet : goal.returns-clause-every_packet
returns-clause-every_packet c = every_value _ _ _ c.packet.result (packet_exact c.args.octets.now) c.packet.ensures.refused c.packet.ensures.packet
