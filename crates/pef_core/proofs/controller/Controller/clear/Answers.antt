use Rattle.std.proofs.Common.{◌∷◌, Some, sym, ◌∙◌, ap, length}
use Rattle.std.specs.Prelude.{◌||◌, nat_lt, is_some}
use Rattle.pef_core.specs.Replies.{cleared, Answer}
use Rattle.pef_core.specs.Past.{Cleared}
use Rattle.pef_core.specs.declared.note.Note.TheVariants.{Nothing}
use Rattle.pef_core.specs.View.{shown}
use Rattle.pef_core.proofs.Deeds.{refused, passes, clears}
use Rattle.pef_core.proofs.controller.Controller.clear.Goals as goal

abbrev done : Answer
done = record { octets = 0x00 ∷ cleared; effect = Cleared }

pub returns-then-is_at_work-clause-values : goal.returns-then-is_at_work-clause-values
returns-then-is_at_work-clause-values c =
    let v = shown c.args.self.now in
    ap shown c.finish.ensures
    ∙ refused v (nat_lt v.now.mark (length v.records) || is_some v.now.running) 0xD5 done (sym c.is_at_work.ensures ∙ c.if-is_at_work.true)

pub returns-clause-values : goal.returns-clause-values
returns-clause-values c =
    let v = shown c.args.self.now in
    ap shown c.keep.ensures
    ∙ passes v (shown (record c.args.self.now { log = c.clear.new.self; mark = 0; software = 0x0000; note = Nothing; reply = Some c.cleared.result })) (nat_lt v.now.mark (length v.records) || is_some v.now.running) 0xD5 done
    (sym c.is_at_work.ensures ∙ c.if-is_at_work.false)
    (clears v c.clear.new.self c.cleared.result c.clear.ensures c.cleared.ensures)
