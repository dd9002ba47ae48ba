-- From one arrival to the next, and how the run over them ends.
use Rattle.std.proofs.Common.{◌≡◌, inl, inr, ℕ, ◌+◌, ◌≤◌, List, [], ◌∷◌, ◌++◌, length, length-append, Option, Some, None, IsTrue, refl, sym, ◌∙◌, ap, subst, arith, Result, Ok, Err}
use Rattle.std.specs.Prelude.{IfSome}
use Rattle.board_core.specs.Causes.{HasCause}
use Rattle.board_core.specs.declared.feed.Arrival.{Arrival}
use Rattle.pef_engine.specs.declared.script.Script.{Script}
use Rattle.pef_engine.specs.CrashFree.{option_list, entry_items}
use Rattle.script_run.specs.declared.stop.StepStop.{StepStop}
use Rattle.script_run.specs.Going.{Kind, World, Goes}
use Rattle.script_run.proofs.GoingLemmas.{goes_then, goes_then_rest}
use Rattle.feed_run.specs.declared.stop.FeedStop.{FeedStop}
use Rattle.feed_run.specs.declared.stop.FeedStop.TheVariants.{Step, Failed, Unfinished}
use Rattle.feed_run.specs.Arriving.{items_given, Gave, HasEnded, IsUnfinished, NamesIt, Refuses}
use Rattle.feed_run.specs.Feeding.{FeedAt, IsRefusal, GoesFew, Feeds, Feeding}
use Rattle.feed_run.proofs.ArrivingLemmas.{items_more, gave_none, gave_then, gave_no_more}

one_item : {I : Type 0} (o : Option I) → length (option_list o) ≤ 1
one_item None = omega arith
one_item (Some item) = omega arith

module _ {I M : Type 0} (k : Kind I M) where
  -- of one item at most that one isn't stored
  pub few_of : {old new : World I M} {items : List I} {stop : Option StepStop} → Goes k old new items stop → length items ≤ 1 → GoesFew k old new items stop
  few_of goes one = record {
    goes = goes;
    few = λ tells Z H holds. let w = goes.went tells Z H holds in omega (arith, one, length-append (entry_items w.entries) w.rest, ap length w.taken);
  }

  pub few_then : {old mid new : World I M} {items more : List I} {stop : Option StepStop} → Goes k old mid items None → GoesFew k mid new more stop → GoesFew k old new (items ++ more) stop
  few_then first second = record {
    goes = goes_then k first second.goes;
    few = λ tells Z H holds.
        let r = goes_then_rest k first second.goes tells Z H holds in
        let f = second.few tells Z r.0 r.1 in omega (arith, f, ap length r.2);
  }

module _ {I M : Type 0} (k : Kind I M) (item_at : Arrival → Option I) where
  -- nothing was asked yet
  pub feeding_start : {w : World I M} (at : FeedAt) (given : ℕ) → given ≡ 0 → Goes k w w [] None → Feeding k item_at w w at at given 0
  feeding_start at given none goes = record { fresh = []; gave = gave_none at.arrivals; goes = few_of k goes (omega arith); same = refl; asked = none; counted = refl }

  module _ {old now : World I M} {from at : FeedAt} (given items : ℕ) (f : Feeding k item_at old now from at given items) (to : FeedAt) (arrival : Arrival) (gave : Gave at.arrivals to.arrivals (arrival ∷ [])) (same : to.faults ≡ at.faults) where
    goes_more : {new : World I M} {stop : Option StepStop} → Goes k now new (option_list (item_at arrival)) stop → GoesFew k old new (items_given item_at (f.fresh ++ arrival ∷ [])) stop
    goes_more {new} {stop} goes = subst (λ l. GoesFew k old new l stop) (items_more item_at f.fresh arrival) (few_then k f.goes.goes (few_of k goes (one_item (item_at arrival))))

    -- its item was taken
    pub feeding_next : {new : World I M} (given' n : ℕ) → given' ≡ given + 1 → n ≡ length (option_list (item_at arrival)) → Goes k now new (option_list (item_at arrival)) None → Feeding k item_at old new from to given' (items + n)
    feeding_next given' n one taken goes = record {
      fresh = f.fresh ++ arrival ∷ [];
      gave = gave_then from.arrivals at.arrivals to.arrivals f.fresh (arrival ∷ []) f.gave gave;
      goes = goes_more goes;
      same = same ∙ f.same;
      asked = omega (arith, one, f.asked, length-append f.fresh (arrival ∷ []));
      counted = omega (arith, taken, f.counted, length-append (items_given item_at f.fresh) (option_list (item_at arrival)), ap length (items_more item_at f.fresh arrival));
    }

    -- a step stopped it
    pub feeds_stopped : {new : World I M} (most : ℕ) → given + 1 ≤ most → (stop : StepStop) → Goes k now new (option_list (item_at arrival)) (Some stop) → Feeds k item_at most old new from to (Err (Step stop))
    feeds_stopped most within stop goes = record {
      fresh = f.fresh ++ arrival ∷ [];
      gave = gave_then from.arrivals at.arrivals to.arrivals f.fresh (arrival ∷ []) f.gave gave;
      at_most = omega (arith, within, f.asked, length-append f.fresh (arrival ∷ []));
      goes = goes_more goes;
      idle = λ asked. absurd asked;
      counted = tt;
      all = tt;
      refused = λ id count e. absurd (cc e);
      later = omega (arith, same, f.same);
      failed = λ e. absurd (cc e);
      same = λ not. same ∙ f.same;
    }

  module _ {old now : World I M} {from at : FeedAt} (most given items : ℕ) (f : Feeding k item_at old now from at given items) (due : (k.view now.engine.machine).due ≡ None) where
    -- so many arrivals were given
    pub feeds_all : given ≡ most → Feeds k item_at most old now from at (Ok items)
    feeds_all all = record {
      fresh = f.fresh;
      gave = f.gave;
      at_most = omega (arith, all, f.asked);
      goes = f.goes;
      idle = λ asked. due;
      counted = f.counted;
      all = inl (sym f.asked ∙ all);
      refused = λ id count e. absurd (cc e);
      later = omega (arith, f.same);
      failed = λ e. absurd (cc e);
      same = λ not. f.same;
    }

    -- the end was told
    pub feeds_ended : (to : FeedAt) → given ≤ most → Gave at.arrivals to.arrivals [] × HasEnded to.arrivals → to.faults ≡ at.faults → Feeds k item_at most old now from to (Ok items)
    feeds_ended to within ended same = record {
      fresh = f.fresh;
      gave = gave_no_more from.arrivals at.arrivals to.arrivals f.fresh f.gave ended.0;
      at_most = omega (arith, within, f.asked);
      goes = f.goes;
      idle = λ asked. due;
      counted = f.counted;
      all = inr ended.1;
      refused = λ id count e. absurd (cc e);
      later = omega (arith, same, f.same);
      failed = λ e. absurd (cc e);
      same = λ not. same ∙ f.same;
    }

    -- the feed failed
    pub feeds_failed : (to : FeedAt) (stop : FeedStop) → given ≤ most → stop ≡ Failed → Gave at.arrivals to.arrivals [] → HasCause {T = Option Arrival} {E = FeedStop} at.faults to.faults (Err stop) → Feeds k item_at most old now from to (Err stop)
    feeds_failed to stop within is gave cause =
        subst (λ s. Feeds k item_at most old now from to (Err s)) (sym is) (record {
          fresh = f.fresh;
          gave = gave_no_more from.arrivals at.arrivals to.arrivals f.fresh f.gave gave;
          at_most = omega (arith, within, f.asked);
          goes = f.goes;
          idle = λ asked. due;
          counted = tt;
          all = tt;
          refused = λ id count e. absurd (cc e);
          later = omega (arith, f.same, cause.later);
          failed = λ e. omega (arith, f.same, cause.failed);
          same = λ not. absurd (not refl);
        })

  -- behind what was settled
  pub feeds_settled : {old mid new : World I M} {from to : FeedAt} (most : ℕ) (result : Result ℕ FeedStop) → Goes k old mid [] None → Feeds k item_at most mid new from to result → Feeds k item_at most old new from to result
  feeds_settled most result goes f = record {
    fresh = f.fresh;
    gave = f.gave;
    at_most = f.at_most;
    goes = few_then k goes f.goes;
    idle = f.idle;
    counted = f.counted;
    all = f.all;
    refused = f.refused;
    later = f.later;
    failed = f.failed;
    same = f.same;
  }

  -- a step stopped it before the feed was asked
  pub feeds_nothing : {old new : World I M} (at : FeedAt) (most : ℕ) (stop : StepStop) → Goes k old new [] (Some stop) → Feeds k item_at most old new at at (Err (Step stop))
  feeds_nothing at most stop goes = record {
    fresh = [];
    gave = gave_none at.arrivals;
    at_most = omega arith;
    goes = few_of k goes (omega arith);
    idle = λ asked. absurd asked;
    counted = tt;
    all = tt;
    refused = λ id count e. refl;
    later = omega arith;
    failed = λ e. absurd (cc e);
    same = λ not. refl;
  }

  -- a script is unfinished
  pub feeds_refused : {w : World I M} (at : FeedAt) (most id count : ℕ) → Goes k w w [] None → Feeds k item_at most w w at at (Err (Unfinished id count))
  feeds_refused at most id count goes = record {
    fresh = [];
    gave = gave_none at.arrivals;
    at_most = omega arith;
    goes = few_of k goes (omega arith);
    idle = λ asked. absurd asked;
    counted = tt;
    all = tt;
    refused = λ id count e. refl;
    later = omega arith;
    failed = λ e. absurd (cc e);
    same = λ not. refl;
  }

-- the items of one arrival by another name
pub goes_at : {I M : Type 0} (k : Kind I M) {old new : World I M} {stop : Option StepStop} (one other : Option I) → one ≡ other → Goes k old new (option_list other) stop → Goes k old new (option_list one) stop
goes_at k {old} {new} {stop} one other is goes = subst (λ o. Goes k old new (option_list o) stop) (sym is) goes

-- what becomes of a script that is unfinished
module _ {I M : Type 0} (k : Kind I M) (item_at : Arrival → Option I) where
  pub feeds_refusal : {w : World I M} (at : FeedAt) (most : ℕ) (script : Option Script) (stop : FeedStop) → Refuses script (Err stop) → Goes k w w [] None → Feeds k item_at most w w at at (Err stop)
  feeds_refusal at most script (Unfinished id count) refuses goes = feeds_refused k item_at at most id count goes
  feeds_refusal at most script Failed refuses goes = absurd refuses
  feeds_refusal at most script (Step stop) refuses goes = absurd refuses

pub names_it : (script : Option Script) (stop : FeedStop) (id count : ℕ) → Refuses script (Err stop) → stop ≡ Unfinished id count → NamesIt script id count
names_it script (Unfinished i c) id count refuses is =
    let one : i ≡ id = cc is in
    let other : c ≡ count = cc is in
    subst (λ n. NamesIt script n count) one (subst (λ n. NamesIt script i n) other refuses)
names_it script Failed id count refuses is = absurd refuses
names_it script (Step stop) id count refuses is = absurd refuses

pub is_named : (script : Option Script) (stop : FeedStop) → Refuses script (Err stop) → IsRefusal (Err stop)
is_named script (Unfinished i c) refuses = (i, c, refl)
is_named script Failed refuses = absurd refuses
is_named script (Step stop) refuses = absurd refuses

pub not_both : (script : Option Script) → IfSome script (λ s. IsTrue s.closed) → IsUnfinished script → ⊥
not_both None closed unfinished = unfinished
not_both (Some s) closed unfinished = cc (closed, unfinished)
