use Rattle.std.proofs.Common.{subst}
use Rattle.pef_engine.specs.Marks.{ReadsMark}
use Rattle.run_trials.proofs.Shelf.{decodes_mark, decodes_put}
use Rattle.run_trials.proofs.scripts.shelf.ShelfMachine.decode_entry.Goals as goal

pub returns-in-Some : goal.returns-in-Some
returns-in-Some c = rw c.entry_of.ensures (decodes_mark c.args.octets.now c.in-Some.mark (subst (ReadsMark c.args.octets.now) c.in-Some.is c.read_mark.ensures))

pub returns-in-None : goal.returns-in-None
returns-in-None c = decodes_put c.args.octets.now c.read_put.result (subst (ReadsMark c.args.octets.now) c.in-None.is c.read_mark.ensures) c.read_put.ensures.found c.read_put.ensures.right
