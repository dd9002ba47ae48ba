use Rattle.std.proofs.Common.{Ok, arith, refl, subst}
use Rattle.std.proofs.lemmas.Result.{err_from_is_err_and}
use Rattle.script_run.proofs.GoingLemmas.{goes_nothing}
use Rattle.script_run.proofs.Shared.{err_is}
use Rattle.feed_run.specs.Arriving.{GivesNext}
use Rattle.feed_run.specs.Feeding.{feed_at}
use Rattle.feed_run.proofs.FeedingLemmas.{feeding_start, feeding_next, feeds_stopped, feeds_all, feeds_ended, feeds_failed}
use Rattle.feed_run.proofs.arrivals.take_arrivals.Goals as goal

pub arrivals-init : goal.arrivals-init
arrivals-init g c = record {
  live = c.requires.live;
  place = c.requires.place;
  ready = c.requires.ready;
  items = omega arith;
  feeding = feeding_start _ _ _ _ (omega arith) (goes_nothing _ (g.met.B.Board.sound c.args.board.now) c.requires.live c.requires.place);
}

pub returns-then-left-eq0-clause-feeds : goal.returns-then-left-eq0-clause-feeds
returns-then-left-eq0-clause-feeds g c =
    let i = c.arrivals.invariant in
    feeds_all _ _ c.args.arrivals _ c.arrivals.items i.feeding i.ready.idle (omega (arith, c.if-left-eq0.true))

pub returns-in_err-arrival-clause-feeds : goal.returns-in_err-arrival-clause-feeds
returns-in_err-arrival-clause-feeds g c =
    let i = c.arrivals.invariant in
    let o = c.in_err-arrival.ensures in
    let to = feed_at (g.F.Feed.arrivals c.next_arrival.new.feed) (g.F.Feed.faults c.next_arrival.new.feed) in
    let q = err_from_is_err_and c.from_residual.result c.from_residual.ensures.1 in
    rw (q.1, q.2) (feeds_failed _ _ c.args.arrivals _ c.arrivals.items i.feeding i.ready.idle to c.in_err-arrival.field-0.0 (omega arith) (err_is (o.failed refl)) o.given o.cause)

pub returns-in_default-clause-feeds : goal.returns-in_default-clause-feeds
returns-in_default-clause-feeds g c =
    let i = c.arrivals.invariant in
    let o = c.in_ok-arrival.ensures in
    let to = feed_at (g.F.Feed.arrivals c.next_arrival.new.feed) (g.F.Feed.faults c.next_arrival.new.feed) in
    feeds_ended _ _ c.args.arrivals _ c.arrivals.items i.feeding i.ready.idle to (omega arith) (subst (λ x. GivesNext (g.F.Feed.arrivals c.arrivals.feed) to.arrivals (Ok x)) c.in_default.is o.given) o.cause.same

pub returns-in_err-items-clause-feeds : goal.returns-in_err-items-clause-feeds
returns-in_err-items-clause-feeds g c =
    let i = c.arrivals.invariant in
    let o = c.in_ok-arrival.ensures in
    let to = feed_at (g.F.Feed.arrivals c.next_arrival.new.feed) (g.F.Feed.faults c.next_arrival.new.feed) in
    let q = err_from_is_err_and c.from_residual-in_err-items.result c.from_residual-in_err-items.ensures.1 in
    rw (q.1, q.2) (feeds_stopped _ _ _ c.arrivals.items i.feeding to c.in-Some.arrival (subst (λ x. GivesNext (g.F.Feed.arrivals c.arrivals.feed) to.arrivals (Ok x)) c.in-Some.is o.given) o.cause.same
    c.args.arrivals (omega (arith, i.items, c.if-left-eq0.false)) c.in_err-items.field-0.0 c.in_err-items.ensures.goes)

pub arrivals-preserved : goal.arrivals-preserved
arrivals-preserved g c =
    let i = c.arrivals.invariant in
    let o = c.in_ok-arrival.ensures in
    let one = c.in_ok-items.ensures in
    let to = feed_at (g.F.Feed.arrivals c.next_arrival.new.feed) (g.F.Feed.faults c.next_arrival.new.feed) in record {
      live = (one.goes.live refl).0;
      place = (one.goes.live refl).1;
      ready = one.ready;
      items = omega (arith, i.items, one.few, c.if-left-eq0.false);
      feeding = feeding_next _ _ _ c.arrivals.items i.feeding to c.in-Some.arrival (subst (λ x. GivesNext (g.F.Feed.arrivals c.arrivals.feed) to.arrivals (Ok x)) c.in-Some.is o.given) o.cause.same _ _ (omega (arith, i.items, c.if-left-eq0.false)) one.count one.goes;
    }
