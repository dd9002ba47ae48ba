use Rattle.std.proofs.Common.{◌≤◌, Some, None, ◌∙◌, sym}
use Rattle.pef_config.specs.Kept.{tables}
use Rattle.pef_match.proofs.Strings.{text_listed, text_named}
use Rattle.pef_match.proofs.alerts.text_of.Goals as goal

pub returns-in-Some : goal.returns-in-Some
returns-in-Some c =
    let strings = c.strings-strings.result.now in
    let t = tables c.args.config.now in
    let within : c.in-Some.number ≤ 8 = c.text_for.ensures.within c.in-Some.number c.in-Some.is in
    text_named strings t c.args.key c.args.filter (Some c.in-Some.number) c.text.result c.text_for.ensures.count c.strings-strings.ensures.keys
    (sym c.in-Some.is ∙ c.text_for.ensures.named)
    (c.text.ensures.text ∙ text_listed strings t c.text.ensures.count c.strings-strings.ensures.blocks c.in-Some.number within)

pub returns-in-None : goal.returns-in-None
returns-in-None c =
    let strings = c.strings-strings.result.now in
    let t = tables c.args.config.now in
    text_named strings t c.args.key c.args.filter None c.new.result c.text_for.ensures.count c.strings-strings.ensures.keys
    (sym c.in-None.is ∙ c.text_for.ensures.named) c.new.ensures
