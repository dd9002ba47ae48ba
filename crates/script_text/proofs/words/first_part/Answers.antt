use Rattle.std.proofs.Common.{◌∷◌, take, ap, ◌∙◌, sym}
use Rattle.script_text.specs.Forms.{parts_of}
use Rattle.script_text.proofs.WordLemmas.{first_of_parts, one_part}
use Rattle.script_text.proofs.words.first_part.Goals as goal

pub returns-in-Some : goal.returns-in-Some
returns-in-Some c = first_of_parts c.args.separator c.args.text.now c.in-Some.at (sym c.find.ensures ∙ c.in-Some.is)
    ∙ ap (λ l. take c.in-Some.at c.args.text.now ∷ parts_of c.args.separator l) (sym c.behind.ensures)

pub returns-in-None : goal.returns-in-None
returns-in-None c = one_part c.args.separator c.args.text.now (sym c.find.ensures ∙ c.in-None.is)
