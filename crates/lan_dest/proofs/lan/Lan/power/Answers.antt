use Rattle.std.proofs.Common.{replicate, ap, ◌∙◌}
use Rattle.lan_dest.specs.Parameters.{at, with_content}
use Rattle.lan_dest.proofs.lan.Lan.power.Goals as goal

pub returns : goal.returns
returns c =
    c.put_kind-2.ensures ∙ ap (with_content (at 1 18 0) (replicate 3 0))
    (c.put_address-2.ensures ∙ ap (with_content (at 1 19 0) (replicate 12 0))
    (c.put_kind.ensures ∙ ap (with_content (at 2 18 0) (replicate 3 0)) c.put_address.ensures))
