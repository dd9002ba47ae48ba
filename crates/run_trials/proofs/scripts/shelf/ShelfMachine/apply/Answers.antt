use Rattle.std.proofs.Common.{sym, subst, [], ◌∷◌, ◌++◌, vec_len}
use Rattle.pef_engine.specs.declared.entry.Entry.TheVariants.{Item}
use Rattle.run_trials.specs.Shelf.{ShowsShelf}
use Rattle.run_trials.proofs.Shelf.{shelf_goes_on}
use Rattle.run_trials.proofs.scripts.shelf.ShelfMachine.apply.Goals as goal

pub returns-in-Item-clause-shows : goal.returns-in-Item-clause-shows
returns-in-Item-clause-shows c = λ Z H lawful shows.
    let old = c.args.self.now in
    subst (λ e. ShowsShelf c.script_behind-self.result (vec_len c.put.new.held) Z (H ++ e ∷ [])) (sym c.in-Item.is)
    (rw (c.script_behind-self.ensures, c.put.ensures) (shelf_goes_on old.script (vec_len old.held) c.in-Item.item Z H shows))
