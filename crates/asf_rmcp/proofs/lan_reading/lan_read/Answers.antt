use Rattle.asf_rmcp.proofs.Answered.{lan_exact, is_value, every_value}
use Rattle.asf_rmcp.proofs.lan_reading.lan_read.Goals as goal

pub returns-clause-message : goal.returns-clause-message
returns-clause-message c = is_value _ _ _ c.lan.result (lan_exact c.args.octets.now) c.lan.ensures.refused c.lan.ensures.message

pub returns-clause-every_message : goal.returns-clause-every_message
returns-clause-every_message c = every_value _ _ _ c.lan.result (lan_exact c.args.octets.now) c.lan.ensures.refused c.lan.ensures.message
