use Rattle.std.proofs.Common.{List, ℕ, length, sym, subst, ap, ◌∙◌}
use Rattle.asf_rmcp.specs.Layout.{IsLan}
use Rattle.asf_rmcp.proofs.Written.{is_lan_frame, lan_frame_length}
use Rattle.asf_rmcp.proofs.lan_writing.lan_write.Goals as goal

pub returns-clause-read_again : goal.returns-clause-read_again
returns-clause-read_again c = subst (λ (l : List ℕ). IsLan l c.args.message.now) (sym c.frame.ensures.octets) (is_lan_frame c.args.message.now c.frame.ensures.few)

pub returns-clause-length : goal.returns-clause-length
returns-clause-length c = ap (λ (l : List ℕ). length l) c.frame.ensures.octets ∙ lan_frame_length c.args.message.now
