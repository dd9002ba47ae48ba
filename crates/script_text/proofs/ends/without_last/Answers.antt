use Rattle.std.proofs.Common.{[], ◌∷◌, length, take, sym, ◌∙◌, ap}
use Rattle.std.proofs.lemmas.Slice.Eq.{strip_suffix_is}
use Rattle.std.proofs.lemmas.Bool.Decides.{Decides-eqb}
use Rattle.script_text.specs.Lines.{without_last}
use Rattle.script_text.proofs.LastOctet.{without_last-push, without_last-kept, front_of-push}
use Rattle.script_text.proofs.ends.without_last.Goals as goal

pub returns-in-Some-clause-rest : goal.returns-in-Some-clause-rest
returns-in-Some-clause-rest c =
    let is = rw c.in-Some.is at (strip_suffix_is Decides-eqb c.args.octets.now c.as_slice.result.now c.strip_suffix.result c.strip_suffix.ensures.cases) in
    sym (ap (without_last c.args.end) (rw c.as_slice.ensures at is) ∙ without_last-push c.args.end c.in-Some.front.now)

pub returns-in-Some-clause-front : goal.returns-in-Some-clause-front
returns-in-Some-clause-front c =
    let is = rw c.in-Some.is at (strip_suffix_is Decides-eqb c.args.octets.now c.as_slice.result.now c.strip_suffix.result c.strip_suffix.ensures.cases) in
    ap (take (length c.in-Some.front.now)) (rw c.as_slice.ensures at is) ∙ front_of-push c.in-Some.front.now (c.args.end ∷ [])

pub returns-in-None-clause-rest : goal.returns-in-None-clause-rest
returns-in-None-clause-rest c =
    let none = rw c.in-None.is at (strip_suffix_is Decides-eqb c.args.octets.now c.as_slice.result.now c.strip_suffix.result c.strip_suffix.ensures.cases) in
    sym (without_last-kept c.args.end c.args.octets.now (rw c.as_slice.ensures at none))
