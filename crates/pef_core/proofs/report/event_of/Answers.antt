use Rattle.std.proofs.Common.{sym, ◌∙◌, ap}
use Rattle.script_text.proofs.WordLemmas.{has_more}
use Rattle.pef_core.specs.Report.{event_of}
use Rattle.pef_core.proofs.report.event_of.Goals as goal

-- two words or more behind `event` are no record
pub returns-then-is_some : goal.returns-then-is_some
returns-then-is_some c =
    let more = has_more 32 c.first_word.result.0.now c.args.words.now c.first_word.result.1 (sym c.is_some.ensures ∙ c.if-is_some.true) c.first_word.ensures in
    sym (ap event_of more.parts)
