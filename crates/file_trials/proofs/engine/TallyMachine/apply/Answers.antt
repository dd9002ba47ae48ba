use Rattle.std.proofs.Common.{sym, subst, not, false, [], ◌∷◌, ◌++◌}
use Rattle.pef_engine.specs.declared.entry.Entry.TheVariants.{Item, Outcome}
use Rattle.file_trials.specs.Tally.{ShowsTally, tally_goes_on}
use Rattle.file_trials.proofs.engine.TallyMachine.apply.Goals as goal

pub returns-in-Item-clause-shows : goal.returns-in-Item-clause-shows
returns-in-Item-clause-shows c = λ Z H lawful shows.
    let old = c.args.self.now in
    subst (λ e. ShowsTally (not old.is_even) (not old.is_even) Z (H ++ e ∷ [])) (sym c.in-Item.is) (tally_goes_on old.is_even old.is_due (Item c.in-Item.field-0) Z H shows)

pub returns-in-Outcome-clause-shows : goal.returns-in-Outcome-clause-shows
returns-in-Outcome-clause-shows c = λ Z H lawful shows.
    let old = c.args.self.now in
    subst (λ e. ShowsTally old.is_even false Z (H ++ e ∷ [])) (sym c.in-Outcome.is) (tally_goes_on old.is_even old.is_due (Outcome c.in-Outcome.field-0) Z H shows)
