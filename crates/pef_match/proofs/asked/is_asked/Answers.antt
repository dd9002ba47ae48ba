use Rattle.std.proofs.Common.{ap, eqb}
use Rattle.std.proofs.lemmas.Nat.Bits.{shr_and_one}
use Rattle.pef_match.proofs.asked.is_asked.Goals as goal

pub returns : goal.returns
returns c = ap (λ v. eqb v 1) (shr_and_one c.args.asked c.args.bit)
