use Rattle.std.proofs.Common.{[], ◌∷◌, ◌++◌, ◌∙◌, ap}
use Rattle.pef_engine.specs.declared.entry.Entry.TheVariants.{Item as Taken}
use Rattle.pef_core.specs.Report.{note_line, reply_line}
use Rattle.pef_core.proofs.Saying.{event_said, command_said}
use Rattle.pef_core.proofs.report.ControllerScripted.say.Goals as goal

pub returns-in-Event : goal.returns-in-Event
returns-in-Event c = λ Z H lawful shows.
    c.note_text.ensures ∙ ap note_line (c.note.ensures Z (H ++ Taken c.args.item.now ∷ []) shows) ∙ event_said Z H c.args.item.now c.in-Event.field-0 c.in-Event.is

pub returns-in-Command : goal.returns-in-Command
returns-in-Command c = λ Z H lawful shows.
    c.reply_text.ensures ∙ ap reply_line (c.reply.ensures Z (H ++ Taken c.args.item.now ∷ []) shows) ∙ command_said Z H c.args.item.now c.in-Command.field-0 c.in-Command.is
