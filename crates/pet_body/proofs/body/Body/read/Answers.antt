use Rattle.std.proofs.Common.{◌∙◌, ap, arith}
use Rattle.pet_body.specs.Layout.{layout}
use Rattle.pet_body.proofs.Columns.{columns_laid}
use Rattle.pet_body.proofs.body.Body.read.Goals as goal

pub returns-clause-writes_back : goal.returns-clause-writes_back
returns-clause-writes_back c = ap layout c.columns_of.ensures ∙ columns_laid c.args.octets.now (λ i. omega (arith, c.type_inv.octets i)) (omega arith)
