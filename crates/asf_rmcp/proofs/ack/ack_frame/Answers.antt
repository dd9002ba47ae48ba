use Rattle.std.proofs.Common.{ap, ◌∙◌}
use Rattle.asf_rmcp.specs.Writing.{lan_frame}
use Rattle.asf_rmcp.proofs.ack.ack_frame.Goals as goal

pub returns-clause-octets : goal.returns-clause-octets
returns-clause-octets c = c.lan_write.ensures.octets ∙ ap lan_frame c.request.ensures.message
