use Rattle.std.proofs.Common.{◌≡◌, ◌≤◌, ◌∙◌, ap, sym, Some, subst}
use Rattle.std.specs.Prelude.{IfSome}
use Rattle.pef_config.specs.Kept.{tables}
use Rattle.pef_config.specs.Places.{our_sizes}
use Rattle.pef_match.specs.Texts.{string_text}
use Rattle.pef_match.proofs.Strings.{text_listed}
use Rattle.pef_match.proofs.at_once.string_text.Goals as goal

pub returns-in-Some : goal.returns-in-Some
returns-in-Some c =
    let strings = c.strings.result.now in
    let within : c.in-Some.number ≤ 8 = subst (λ s. IfSome s (λ n. n ≤ 8)) c.in-Some.is c.requires in
    c.text.ensures.text ∙ text_listed strings (tables c.args.config.now) c.text.ensures.count c.strings.ensures.blocks c.in-Some.number within
    ∙ ap (string_text our_sizes (tables c.args.config.now)) (sym c.in-Some.is)
