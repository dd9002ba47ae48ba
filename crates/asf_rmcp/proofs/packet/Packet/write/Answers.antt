use Rattle.std.proofs.Common.{List, ℕ, sym, subst}
use Rattle.asf_rmcp.specs.Layout.{IsPacket}
use Rattle.asf_rmcp.proofs.Written.{is_frame}
use Rattle.asf_rmcp.proofs.packet.Packet.write.Goals as goal

pub returns-clause-read_again : goal.returns-clause-read_again
returns-clause-read_again c = subst (λ (l : List ℕ). IsPacket l c.args.self.now) (sym c.frame.ensures) (is_frame c.args.self.now c.requires)
