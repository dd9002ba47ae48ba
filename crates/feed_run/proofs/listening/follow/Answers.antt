use Rattle.std.proofs.Common.{refl, sym, subst}
use Rattle.std.specs.Prelude.{IfSome, IsTrue}
use Rattle.std.proofs.lemmas.Result.{err_from_is_err_and}
use Rattle.pef_engine.specs.Scripts.{script_of}
use Rattle.script_run.proofs.GoingLemmas.{goes_nothing}
use Rattle.script_run.proofs.Shared.{err_is}
use Rattle.feed_run.specs.Arriving.{NamesIt}
use Rattle.feed_run.proofs.ArrivingLemmas.{takes_settled}
use Rattle.feed_run.proofs.FeedingLemmas.{feeds_refusal, feeds_nothing, feeds_settled, names_it, is_named, not_both}
use Rattle.feed_run.proofs.listening.follow.Goals as goal

pub returns-in_err-refuse_unfinished-clause-feeds : goal.returns-in_err-refuse_unfinished-clause-feeds
returns-in_err-refuse_unfinished-clause-feeds g c =
    let q = err_from_is_err_and c.from_residual.result c.from_residual.ensures.1 in
    rw (q.1, q.2) (feeds_refusal _ _ _ c.args.arrivals c.script-script.result c.in_err-refuse_unfinished.field-0.0 c.in_err-refuse_unfinished.ensures (goes_nothing _ (g.met.B.Board.sound c.args.board.now) c.requires.live c.requires.place))

pub returns-in_err-refuse_unfinished-clause-named : goal.returns-in_err-refuse_unfinished-clause-named
returns-in_err-refuse_unfinished-clause-named g c =
    let q = err_from_is_err_and c.from_residual.result c.from_residual.ensures.1 in
    rw (q.1, q.2) (λ id count e Z H lawful shows.
    subst (λ s. NamesIt s id count) (c.script-script.ensures Z H lawful (subst (λ m. (g.M.Machine.view m).shows Z H) (sym c.machine.ensures) shows)) (names_it c.script-script.result c.in_err-refuse_unfinished.field-0.0 id count c.in_err-refuse_unfinished.ensures (err_is e)))

pub returns-in_err-refuse_unfinished-clause-refused : goal.returns-in_err-refuse_unfinished-clause-refused
returns-in_err-refuse_unfinished-clause-refused g c =
    let q = err_from_is_err_and c.from_residual.result c.from_residual.ensures.1 in
    rw (q.1, q.2) (λ Z H lawful shows unfinished. (refl, refl, is_named c.script-script.result c.in_err-refuse_unfinished.field-0.0 c.in_err-refuse_unfinished.ensures))

pub returns-in_err-settle_and_say-clause-feeds : goal.returns-in_err-settle_and_say-clause-feeds
returns-in_err-settle_and_say-clause-feeds g c =
    let q = err_from_is_err_and c.from_residual-in_err-settle_and_say.result c.from_residual-in_err-settle_and_say.ensures.1 in
    rw (q.1, q.2) (feeds_nothing _ _ _ c.args.arrivals c.in_err-settle_and_say.field-0.0 c.in_err-settle_and_say.ensures.goes)

pub returns-in_err-settle_and_say-clause-named : goal.returns-in_err-settle_and_say-clause-named
returns-in_err-settle_and_say-clause-named g c =
    let q = err_from_is_err_and c.from_residual-in_err-settle_and_say.result c.from_residual-in_err-settle_and_say.ensures.1 in
    rw (q.1, q.2) (λ id count e. absurd (cc (err_is e)))

pub returns-in_err-settle_and_say-clause-refused : goal.returns-in_err-settle_and_say-clause-refused
returns-in_err-settle_and_say-clause-refused g c = λ Z H lawful shows unfinished.
    absurd (not_both (script_of g.M.Scripted.scripts H)
    (subst (λ s. IfSome s (λ x. IsTrue x.closed)) (c.script-script.ensures Z H lawful (subst (λ m. (g.M.Machine.view m).shows Z H) (sym c.machine.ensures) shows)) c.in_ok-refuse_unfinished.ensures) unfinished)

pub take_arrivals-requires-clause-ready : goal.take_arrivals-requires-clause-ready
take_arrivals-requires-clause-ready g c =
    let s = c.requires.shows in
    let o = c.in_ok-settle_and_say.ensures in
    takes_settled g.M.Machine.rules g.M.Scripted.scripts (g.M.Machine.view c.args.engine.now.machine) (g.M.Machine.view c.settle_and_say.new.engine.machine) s.settings s.history s.lawful s.shows
    (subst (λ x. IfSome x (λ y. IsTrue y.closed)) (c.script-script.ensures s.settings s.history s.lawful (subst (λ m. (g.M.Machine.view m).shows s.settings s.history) (sym c.machine.ensures) s.shows)) c.in_ok-refuse_unfinished.ensures)
    (o.goes.moves refl) o.idle

pub returns-clause-feeds : goal.returns-clause-feeds
returns-clause-feeds g c = feeds_settled _ _ c.args.arrivals c.take_arrivals.result c.in_ok-settle_and_say.ensures.goes c.take_arrivals.ensures.feeds

pub returns-clause-named : goal.returns-clause-named
returns-clause-named g c = λ id count e. absurd (c.take_arrivals.ensures.known id count e)

pub returns-clause-refused : goal.returns-clause-refused
returns-clause-refused g c = λ Z H lawful shows unfinished.
    absurd (not_both (script_of g.M.Scripted.scripts H)
    (subst (λ s. IfSome s (λ x. IsTrue x.closed)) (c.script-script.ensures Z H lawful (subst (λ m. (g.M.Machine.view m).shows Z H) (sym c.machine.ensures) shows)) c.in_ok-refuse_unfinished.ensures) unfinished)
