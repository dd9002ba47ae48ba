use Rattle.std.proofs.Common.{◌≡◌, ◌∷◌, sym, ◌∙◌, ap}
use Rattle.script_text.specs.Forms.{words_of}
use Rattle.script_text.proofs.WordLemmas.{has_more}
use Rattle.pef_core.specs.Report.{command_of}
use Rattle.pef_core.proofs.report.command_of.Goals as goal

-- four words or more behind `cmd` are no command
pub returns-then-is_some : goal.returns-then-is_some
returns-then-is_some c =
    let netfn = c.first_word.result.0.now in
    let cmd = c.first_word-2.result.0.now in
    let two = c.in_ok-rest.field-0.now in
    let three = c.in_ok-rest-2.field-0.now in
    let more = has_more 32 c.first_word-3.result.0.now three c.first_word-3.result.1 (sym c.is_some.ensures ∙ c.if-is_some.true) c.first_word-3.ensures in
    let one : words_of c.args.words.now ≡ netfn ∷ words_of two = rw c.in_ok-rest.was at c.first_word.ensures in
    let next : words_of two ≡ cmd ∷ words_of three = rw c.in_ok-rest-2.was at c.first_word-2.ensures in
    sym (ap command_of (one ∙ ap (λ w. netfn ∷ w) next ∙ ap (λ w. netfn ∷ cmd ∷ w) more.parts))
