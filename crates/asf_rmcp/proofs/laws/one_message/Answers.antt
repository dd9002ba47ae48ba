use Rattle.asf_rmcp.proofs.Answered.{one_answer, lan_exact}
use Rattle.asf_rmcp.proofs.laws.one_message.Goals as goal

pub returns : goal.returns
returns c octets = one_answer _ _ _ (lan_exact octets)
