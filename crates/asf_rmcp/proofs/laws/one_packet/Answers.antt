use Rattle.asf_rmcp.proofs.Answered.{one_answer, packet_exact}
use Rattle.asf_rmcp.proofs.laws.one_packet.Goals as goal

pub returns : goal.returns
returns c octets = one_answer _ _ _ (packet_exact octets)
