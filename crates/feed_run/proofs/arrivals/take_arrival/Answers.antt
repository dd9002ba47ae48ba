use Rattle.std.proofs.Common.{None, Some, refl, sym, ◌∙◌, subst}
use Rattle.std.specs.Prelude.{IfSome}
use Rattle.std.proofs.lemmas.Result.{err_from_is_err_and}
use Rattle.pef_engine.specs.declared.entry.Entry.TheVariants.{Item}
use Rattle.script_run.proofs.GoingLemmas.{goes_nothing}
use Rattle.feed_run.proofs.ArrivingLemmas.{any_allowed, takes_more}
use Rattle.feed_run.proofs.FeedingLemmas.{goes_at}
use Rattle.feed_run.proofs.arrivals.take_arrival.Goals as goal

pub returns-in_default-clause-goes : goal.returns-in_default-clause-goes
returns-in_default-clause-goes g c = goes_at _ _ None (sym c.item_of_arrival.ensures.item ∙ c.in_default.is) (goes_nothing _ (g.met.B.Board.sound c.args.board.now) c.requires.live c.requires.place)

pub take_one-requires-clause-allowed : goal.take_one-requires-clause-allowed
take_one-requires-clause-allowed g c =
    let is = sym c.item_of_arrival.ensures.item ∙ c.in-Some.is in
    any_allowed g.M.Machine.rules g.M.Scripted.scripts g.met.M.Scripted.scripted (g.M.Machine.view c.args.engine.now.machine) (g.met.M.Machine.agrees c.args.engine.now.machine) c.requires.ready c.in-Some.item
    (g.met.M.Fed.takes c.args.arrival.now c.in-Some.item is) (subst (λ x. IfSome x (λ i. g.M.Machine.rules.is_entry (Item i))) c.in-Some.is c.item_of_arrival.ensures.entry)

pub returns-in_err-take_one-clause-goes : goal.returns-in_err-take_one-clause-goes
returns-in_err-take_one-clause-goes g c =
    let q = err_from_is_err_and c.from_residual.result c.from_residual.ensures.1 in
    rw (q.1, q.2) (goes_at _ _ (Some c.in-Some.item) (sym c.item_of_arrival.ensures.item ∙ c.in-Some.is) c.in_err-take_one.ensures.goes)

pub returns-clause-goes : goal.returns-clause-goes
returns-clause-goes g c = goes_at _ _ (Some c.in-Some.item) (sym c.item_of_arrival.ensures.item ∙ c.in-Some.is) c.in_ok-take_one.ensures.goes

pub returns-clause-ready : goal.returns-clause-ready
returns-clause-ready g c =
    let is = sym c.item_of_arrival.ensures.item ∙ c.in-Some.is in
    let one = c.in_ok-take_one.ensures in
    takes_more g.M.Machine.rules g.M.Scripted.scripts g.met.M.Scripted.scripted (g.M.Machine.view c.args.engine.now.machine) (g.met.M.Machine.agrees c.args.engine.now.machine) c.requires.ready c.in-Some.item
    (g.met.M.Fed.takes c.args.arrival.now c.in-Some.item is) (g.M.Machine.view c.take_one.new.engine.machine) (one.goes.moves refl) one.idle
