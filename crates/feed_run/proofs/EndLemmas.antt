-- From the opening and what was taken to the call.
use Rattle.std.proofs.Common.{◌≡◌, ◌≢◌, ◌⊎◌, inl, inr, ⊎_elim, ℕ, ◌≤◌, length, List, [], ◌++◌, map, Option, Some, None, IsTrue, refl, sym, ◌∙◌, ap, subst, arith, append_assoc, Result, Ok, Err}
use Rattle.std.specs.Prelude.{IfOk, OnOk}
use Rattle.std.proofs.lemmas.List.{append-nil}
use Rattle.board_core.specs.Causes.{Rose}
use Rattle.board_core.specs.Board.{BoardView, IsSound, tolds_of}
use Rattle.board_core.specs.Feed.{Arrivals}
use Rattle.board_core.specs.declared.feed.Arrival.{Arrival}
use Rattle.pef_journal.specs.Image as image
use Rattle.pef_engine.specs.declared.entry.Entry.{Entry}
use Rattle.pef_engine.specs.declared.engine.Engine.{Engine}
use Rattle.pef_engine.specs.declared.script.Script.{Script}
use Rattle.pef_engine.specs.declared.faults.EngineFault.{EngineFault}
use Rattle.pef_engine.specs.declared.faults.EngineFault.TheVariants as fault
use Rattle.pef_engine.specs.Rules.{Lawful, Stands}
use Rattle.pef_engine.specs.MachineView.{Agrees}
use Rattle.pef_engine.specs.CrashFree.{crash_free_run, entry_items, entry_tolds}
use Rattle.pef_engine.specs.Scripts.{script_of}
use Rattle.pef_engine.specs.Engine.{MayStop, Opens}
use Rattle.pef_engine.proofs.Stored.{images_stand}
use Rattle.report_line.specs.declared.ending.Ending.{Ending}
use Rattle.report_line.specs.declared.ending.Ending.TheVariants as ending
use Rattle.report_line.specs.Finishing.{Finishes}
use Rattle.script_run.specs.declared.stop.StepStop.{StepStop}
use Rattle.script_run.specs.declared.stop.StepStop.TheVariants as step
use Rattle.script_run.specs.Going.{Kind, World, world, Went}
use Rattle.script_run.specs.Performing.{step_ending, open_ending}
use Rattle.script_run.specs.Top.{IsUntouched, RunKeeps, RunStores, EndsWith, IsOfText, IsFailure}
use Rattle.script_run.proofs.GoingLemmas.{counts_then, counts_as}
use Rattle.script_run.proofs.TopLemmas.{run_keeps, open_keeps, begins_run, lacks_none, lacks_of}
use Rattle.script_run.proofs.PerformLemmas.{may_refuse, not_input, not_output, disk_at, refused_at}
use Rattle.script_run.proofs.EndLemmas.{ended, status_zero, done_ends, memory_ends}
use Rattle.feed_run.specs.declared.stop.FeedStop.{FeedStop}
use Rattle.feed_run.specs.declared.stop.FeedStop.TheVariants.{Step, Failed, Unfinished}
use Rattle.feed_run.specs.Arriving.{items_given, HasEnded, IsUnfinished, NamesIt}
use Rattle.feed_run.specs.Feeding.{feed_at, feed_step, IsAsked, IsRefusal, Feeds}
use Rattle.feed_run.specs.Performing.{feed_ending, Performs}
use Rattle.feed_run.specs.Top.{Around, around, plain, IsTaken, MayEndAtOnce, FeedAnswers, IsFeedEnd, MayEnd, FeedCall}
use Rattle.feed_run.proofs.ArrivingLemmas.{some_is, gave_some, ended_of}

-- what was answered that ends so
abbrev answer_of : Ending → Result ℕ FeedStop
answer_of (ending.Done count) = Ok count
answer_of (ending.Unfinished id count) = Err (Unfinished id count)
answer_of ending.Input = Err Failed
answer_of ending.Disk = Err (Step step.Disk)
answer_of ending.Output = Err (Step step.Output)
answer_of ending.Full = Err (Step step.Full)
answer_of ending.Memory = Err (Step step.Memory)
answer_of other = Ok 0

answer_is : (result : Result ℕ FeedStop) → result ≡ answer_of (feed_ending result)
answer_is (Ok count) = refl
answer_is (Err (Unfinished id count)) = refl
answer_is (Err Failed) = refl
answer_is (Err (Step step.Disk)) = refl
answer_is (Err (Step step.Output)) = refl
answer_is (Err (Step step.Full)) = refl
answer_is (Err (Step step.Memory)) = refl

answer : (result : Result ℕ FeedStop) (end : Ending) → feed_ending result ≡ end → result ≡ answer_of end
answer result end e = answer_is result ∙ ap answer_of e

step_is : (stop : StepStop) → answer_of (step_ending stop) ≡ Err (Step stop)
step_is step.Disk = refl
step_is step.Output = refl
step_is step.Full = refl
step_is step.Memory = refl

to_stop : (result : Result ℕ FeedStop) (stop : StepStop) → feed_ending result ≡ step_ending stop → feed_step result ≡ Some stop
to_stop result stop e = ap feed_step (answer result (step_ending stop) e ∙ step_is stop)

to_end : (result : Result ℕ FeedStop) (stop : StepStop) → feed_step result ≡ Some stop → feed_ending result ≡ step_ending stop
to_end (Ok count) stop e = absurd (cc e)
to_end (Err (Unfinished id count)) stop e = absurd (cc e)
to_end (Err Failed) stop e = absurd (cc e)
to_end (Err (Step s)) stop e = ap step_ending (some_is e)

formatted_of : (result : Result ℕ FeedStop) → feed_ending result ≡ ending.Unformatted → ⊥
formatted_of (Ok n) e = cc e
formatted_of (Err (Unfinished i c)) e = cc e
formatted_of (Err Failed) e = cc e
formatted_of (Err (Step step.Disk)) e = cc e
formatted_of (Err (Step step.Output)) e = cc e
formatted_of (Err (Step step.Full)) e = cc e
formatted_of (Err (Step step.Memory)) e = cc e

feed_end : (result : Result ℕ FeedStop) → IsFeedEnd (feed_ending result)
feed_end (Ok n) = tt
feed_end (Err (Unfinished i c)) = tt
feed_end (Err Failed) = tt
feed_end (Err (Step step.Disk)) = tt
feed_end (Err (Step step.Output)) = tt
feed_end (Err (Step step.Full)) = tt
feed_end (Err (Step step.Memory)) = tt

open_end : (f : EngineFault) → IsFeedEnd (open_ending f)
open_end fault.NotFormatted = tt
open_end (fault.Corrupt at) = tt
open_end fault.DiskFault = tt
open_end fault.Full = tt
open_end (fault.Memory error) = tt

at_once : {I M : Type 0} (k : Kind I M) (Z : List ℕ) (H : List (Entry I)) (f : EngineFault) → MayStop k.rules Z H f → MayEndAtOnce k Z H (open_ending f)
at_once k Z H fault.NotFormatted may = absurd may
at_once k Z H (fault.Corrupt at) may = absurd may
at_once k Z H fault.DiskFault may = tt
at_once k Z H fault.Full may = may
at_once k Z H (fault.Memory error) may = tt

asked_of : (result : Result ℕ FeedStop) → IsTaken (feed_ending result) → IsAsked result
asked_of (Ok n) taken = tt
asked_of (Err (Unfinished i c)) taken = absurd taken
asked_of (Err Failed) taken = tt
asked_of (Err (Step step.Disk)) taken = absurd taken
asked_of (Err (Step step.Output)) taken = absurd taken
asked_of (Err (Step step.Full)) taken = absurd taken
asked_of (Err (Step step.Memory)) taken = absurd taken

asked_no_step : (result : Result ℕ FeedStop) → IsAsked result → feed_step result ≡ None
asked_no_step (Ok n) asked = refl
asked_no_step (Err Failed) asked = refl
asked_no_step (Err (Unfinished i c)) asked = absurd asked
asked_no_step (Err (Step stop)) asked = absurd asked

no_step : (result : Result ℕ FeedStop) → IsOfText (feed_ending result) → feed_step result ≡ None
no_step (Ok n) of_text = refl
no_step (Err (Unfinished i c)) of_text = refl
no_step (Err Failed) of_text = refl
no_step (Err (Step step.Disk)) of_text = absurd of_text
no_step (Err (Step step.Output)) of_text = absurd of_text
no_step (Err (Step step.Full)) of_text = absurd of_text
no_step (Err (Step step.Memory)) of_text = absurd of_text

is_failure : (result : Result ℕ FeedStop) → ((count : ℕ) → result ≡ Ok count → ⊥) → ((id count : ℕ) → result ≡ Err (Unfinished id count) → ⊥) → IsFailure (feed_ending result)
is_failure (Ok n) done other = absurd (done n refl)
is_failure (Err (Unfinished i c)) done other = absurd (other i c refl)
is_failure (Err Failed) done other = tt
is_failure (Err (Step step.Disk)) done other = tt
is_failure (Err (Step step.Output)) done other = tt
is_failure (Err (Step step.Full)) done other = tt
is_failure (Err (Step step.Memory)) done other = tt

names_some : (script : Option Script) (id count : ℕ) → NamesIt script id count → IsUnfinished script
names_some None id count names = names
names_some (Some s) id count names = names.0

-- what was taken behind the opening
module _ {I M : Type 0} (k : Kind I M) (Z : List ℕ) (H : List (Entry I)) (old : Around) (mid new : World I M) (arrivals : Option Arrivals) (misses : ℕ) (items : List I) (result : Result ℕ FeedStop) (w : Went k Z H mid new items (feed_step result))
    (sent : mid.board.sent ≡ old.board.sent) (wrote : mid.written ≡ old.written) where
  abbrev after : Around
  after = around new.board arrivals misses new.written new.faults

  stores_of : RunStores k Z H items (plain old) (plain after) (feed_ending result) []
  stores_of =
      let not_disk = λ (not : feed_ending result ≢ ending.Disk) (e : feed_step result ≡ Some step.Disk). not (to_end result step.Disk e) in record {
        entries = w.entries;
        rest = w.rest;
        taken = w.taken;
        is_run = begins_run k Z H items w.rest w.entries w.lawful w.taken;
        lawful = w.lawful;
        room = w.room;
        told = λ not. (w.came (not_disk not)).told ∙ ap (λ s. tolds_of s ++ entry_tolds w.entries) sent;
        stands = λ not. subst (λ (l : List (List ℕ)). image.Stands k.rules.kind Z l new.board.octets) (append-nil (map k.rules.encode (H ++ w.entries))) (w.came (not_disk not)).holds.stored.at.stands;
        lasting = λ not. inr (images_stand _ _ _ new.board new.engine.journal (w.came (not_disk not)).holds.stored);
        torn = λ disk. inr (w.lost (to_stop result step.Disk disk));
        all = λ of_text. w.all (no_step result of_text);
        said = w.said;
        written = λ before is. w.written before (wrote ∙ is) ∙ ap (λ l. Some (before ++ l)) (sym (append-nil w.said));
        whole = λ not. w.whole (λ e. not (to_end result step.Output e));
        cut = λ e. w.cut (to_stop result step.Output e);
        full = λ e. inl (w.full (to_stop result step.Full e));
      }

module _ {I M : Type 0} (k : Kind I M) (item_at : Arrival → Option I) (most : ℕ) (Z : List ℕ) (H : List (Entry I)) (before : Arrivals) (old : Around) (is : old.arrivals ≡ Some before) where
  -- the file is opened, and what the feed gave was taken
  answers_of : (mid new : World I M) (arrivals : Option Arrivals) (misses : ℕ) (result : Result ℕ FeedStop) (f : Feeds k item_at most mid new (feed_at old.arrivals old.misses) (feed_at arrivals misses) result)
      (w : Went k Z H mid new (items_given item_at f.fresh) (feed_step result)) → length w.rest ≤ 1 → mid.board.sent ≡ old.board.sent → mid.written ≡ old.written → Agrees k.rules (k.view new.engine.machine)
      → RunKeeps k.rules Z H (items_given item_at f.fresh) old.board new.board
      → ((id count : ℕ) → result ≡ Err (Unfinished id count) → NamesIt (script_of k.scripts H) id count)
      → (IsUnfinished (script_of k.scripts H) → IsUntouched old.board new.board × IsRefusal result)
      → FeedAnswers k item_at most Z H before old (around new.board arrivals misses new.written new.faults) (feed_ending result) []
  unfolding stores_of
  answers_of mid new arrivals misses result f w few sent wrote agrees keeps named refused =
      let s = stores_of k Z H old mid new arrivals misses (items_given item_at f.fresh) result w sent wrote in
      let g = gave_some old.arrivals arrivals f.fresh before is f.gave in record {
        fresh = f.fresh;
        after = g.0;
        left = g.1;
        coming = g.2;
        given = g.3;
        at_most = f.at_most;
        headline = keeps;
        stores = s;
        few = few;
        all = λ taken. w.all (asked_no_step result (asked_of result taken));
        idle = λ taken. idle (asked_of result taken);
        done = λ count e.
            let ok = answer result (ending.Done count) e in (
              λ unfinished. let r = (refused unfinished).1 in let clash : Ok count ≡ Err (Unfinished r.0 r.1) = sym ok ∙ r.2 in cc clash,
              subst (λ r. IfOk r (λ items. items ≡ length (items_given item_at f.fresh))) ok f.counted,
              ⊎_elim inl (λ ended. inr (ended_of arrivals g.0 g.1 ended)) (subst (λ r. OnOk r ((length f.fresh ≡ most) ⊎ HasEnded arrivals)) ok f.all),
            );
        other = λ id count e. named id count (answer result (ending.Unfinished id count) e);
        is_other = λ unfinished. let r = (refused unfinished).1 in inr (r.0, r.1, ap feed_ending r.2);
        untouched = λ unfinished. let r = refused unfinished in (r.0, f.refused r.1.0 r.1.1 r.1.2);
        formatted = formatted_of result;
        is_full = λ not more lacks. is_failure result
            (λ count ok.
            let asked = subst IsAsked (sym ok) tt in
            lacks_none k Z H (items_given item_at f.fresh) w.entries w.lawful (all_taken asked) w.room (idle asked) more lacks)
            (λ id count e. not (names_some (script_of k.scripts H) id count (named id count e)));
      }
    where
      idle : IsAsked result → k.rules.pending Z (H ++ w.entries) ≡ None
      idle asked =
          let holds = (w.came (λ e. let clash : None ≡ Some step.Disk = sym (asked_no_step result asked) ∙ e in cc clash)).holds in
          sym (agrees.due Z (H ++ w.entries) holds.lawful holds.shows) ∙ f.idle asked

      all_taken : IsAsked result → entry_items w.entries ≡ items_given item_at f.fresh
      all_taken asked = sym (append-nil (entry_items w.entries)) ∙ ap (λ l. entry_items w.entries ++ l) (sym (w.all (asked_no_step result asked))) ∙ w.taken

  -- the file isn't opened
  answers_at_once : (new : BoardView) (end : Ending) → MayEndAtOnce k Z H end → RunKeeps k.rules Z H [] old.board new → IsUntouched old.board new → Stands k.rules Z H old.board.octets
      → FeedAnswers k item_at most Z H before old (around new old.arrivals old.misses old.written old.writes) end []
  answers_at_once new end once keeps same stands = record {
    fresh = [];
    after = before;
    left = is;
    coming = refl;
    given = sym (append-nil before.given);
    at_most = omega arith;
    headline = keeps;
    stores = record {
      entries = [];
      rest = [];
      taken = refl;
      is_run = (crash_free_run k.rules Z H [] [], refl);
      lawful = tt;
      room = tt;
      told = λ not. ap tolds_of same.sent ∙ sym (append-nil (tolds_of old.board.sent));
      stands = λ not. subst (λ G. Stands k.rules Z G new.octets) (sym (append-nil H)) (subst (Stands k.rules Z H) (sym same.octets) stands);
      lasting = λ not. inl same;
      torn = λ disk. inl (refl, same);
      all = λ of_text. refl;
      said = [];
      written = λ before is. is ∙ ap Some (sym (append-nil before));
      whole = λ not. refl;
      cut = λ e. absurd (subst (MayEndAtOnce k Z H) e once);
      full = λ e. inr (subst (MayEndAtOnce k Z H) e once);
    };
    few = omega arith;
    all = λ taken. refl;
    idle = λ taken. absurd (not_taken end once taken);
    done = λ count e. absurd (subst (MayEndAtOnce k Z H) e once);
    other = λ id count e. absurd (subst (MayEndAtOnce k Z H) e once);
    is_other = λ unfinished. inl once;
    untouched = λ unfinished. (same, refl);
    formatted = λ e. subst (MayEndAtOnce k Z H) e once;
    is_full = λ not more lacks. fails end once;
  }
    where
      not_taken : (end : Ending) → MayEndAtOnce k Z H end → IsTaken end → ⊥
      not_taken (ending.Done count) once taken = once
      not_taken ending.Input once taken = once
      not_taken other once taken = taken

      fails : (end : Ending) → MayEndAtOnce k Z H end → IsFailure end
      fails ending.Disk once = tt
      fails ending.Full once = tt
      fails ending.Memory once = tt
      fails ending.Input once = tt
      fails ending.Output once = tt
      fails other once = absurd once

module _ {I M : Type 0} (k : Kind I M) (item_at : Arrival → Option I) (most : ℕ) (old : Around) where
  -- the file isn't opened
  pub performs_not : (new : BoardView) (f : EngineFault) → Opens {M = M} k.rules k.view old.board new (Err f) → IsSound new → Performs k item_at most old (around new old.arrivals old.misses old.written old.writes) (open_ending f)
  performs_not new f o sound = record {
    is_end = open_end f;
    answers = λ t Z H before lawful stands is.
        let a = o.opened t Z H lawful stands in
        answers_at_once k item_at most Z H before old is new (open_ending f) (at_once k Z H f a.stops) (open_keeps k Z H [] old.board new sound t a.sent a.octets stands a.any_moment) (untouched t) stands;
    unformatted = λ e t Z H lawful stands. refused_at k Z H f (o.opened t Z H lawful stands).stops e;
    refuses = λ t none. (may_refuse k old.board.octets f (o.causes t), untouched t);
    quiet = λ why. (refl, refl);
    memory = λ e. inr untouched;
    counts = record {
      board = counts_as o.counts (λ e. ap Err (disk_at f e)) (λ e. let is : f ≡ fault.DiskFault = cc e in ap open_ending is);
      reads_later = omega arith;
      reads = λ e. absurd (not_input f e);
      reads_same = λ not. refl;
      writes_later = omega arith;
      writes = λ e. absurd (not_output f e);
      writes_same = λ not. refl;
    };
  }
    where
      untouched : IsTrue new.tells → IsUntouched old.board new
      untouched t = record { octets = o.octets t; sent = o.run.sent t; moments = o.moments t }

  -- the file is opened
  pub performs : (mid : BoardView) (first : Engine M I) (new : World I M) (arrivals : Option Arrivals) (misses : ℕ) (result : Result ℕ FeedStop) → Opens {M = M} k.rules k.view old.board mid (Ok first)
      → Feeds k item_at most (world mid first old.written old.writes) new (feed_at old.arrivals old.misses) (feed_at arrivals misses) result → IsSound new.board → Agrees k.rules (k.view new.engine.machine)
      → ((id count : ℕ) → result ≡ Err (Unfinished id count) → (Z : List ℕ) (H : List (Entry I)) → Lawful k.rules Z H → (k.view first.machine).shows Z H → NamesIt (script_of k.scripts H) id count)
      → ((Z : List ℕ) (H : List (Entry I)) → Lawful k.rules Z H → (k.view first.machine).shows Z H → IsUnfinished (script_of k.scripts H) → (new.board ≡ mid) × IsRefusal result)
      → Performs k item_at most old (around new.board arrivals misses new.written new.faults) (feed_ending result)
  performs mid first new arrivals misses result o f sound agrees named refused =
      let c = f.goes.goes.counts in record {
        is_end = feed_end result;
        answers = λ t Z H before lawful stands is.
            let back = c.board.tells t in
            let a = o.opened back Z H lawful stands in
            let w = f.goes.goes.went t Z H a.holds in
            let untouched : IsUntouched old.board mid = record { octets = o.octets back; sent = o.run.sent back; moments = o.moments back } in
            answers_of k item_at most Z H before old is (world mid first old.written old.writes) new arrivals misses result f w (f.goes.few t Z H a.holds) a.sent refl agrees
            (run_keeps k Z H (items_given item_at f.fresh) old.board mid new.board stands a.synced a.sent w.moments sound t)
            (λ id count e. named id count e Z H lawful a.holds.shows)
            (λ unfinished. let r = refused Z H lawful a.holds.shows unfinished in (subst (IsUntouched old.board) (sym r.0) untouched, r.1));
        unformatted = λ e t. absurd (formatted_of result e);
        refuses = λ t none. let some = o.stands (c.board.tells t) in absurd (none some.0 some.1 some.2 some.3);
        quiet = λ why. ⊎_elim (λ e. absurd (formatted_of result e)) (λ n. let some = o.stands (c.board.tells n.0) in absurd (n.1 some.0 some.1 some.2 some.3)) why;
        memory = λ e. inl (c.memory (to_stop result step.Memory e));
        counts = record {
          board = counts_then o.counts (λ e. cc e) (counts_as c.board (λ e. to_stop result step.Disk e) (λ e. to_end result step.Disk e));
          reads_later = f.later;
          reads = λ e. f.failed (answer result ending.Input e);
          reads_same = λ not. f.same (λ e. not (ap feed_ending e));
          writes_later = c.later;
          writes = λ e. c.output (to_stop result step.Output e);
          writes_same = λ not. c.same (λ e. not (to_end result step.Output e));
        };
      }

-- the same with what the last line added
stores_with : {I M : Type 0} (k : Kind I M) (Z : List ℕ) (H : List (Entry I)) (items : List I) (old mid new : Around) (end : Ending) (part : List ℕ) → new.board ≡ mid.board → ((text : List ℕ) → mid.written ≡ Some text → new.written ≡ Some (text ++ part))
    → RunStores k Z H items (plain old) (plain mid) end [] → RunStores k Z H items (plain old) (plain new) end part
stores_with {I} k Z H items old mid new end part board wrote s = record {
  entries = s.entries;
  rest = s.rest;
  taken = s.taken;
  is_run = s.is_run;
  lawful = s.lawful;
  room = s.room;
  told = λ not. ap (λ (b : BoardView). tolds_of b.sent) board ∙ s.told not;
  stands = λ not. subst (λ (b : BoardView). Stands k.rules Z (H ++ s.entries) b.octets) (sym board) (s.stands not);
  lasting = λ not. subst (λ (b : BoardView). IsUntouched old.board b ⊎ ((c : List ℕ) → b.images c → Stands k.rules Z (H ++ s.entries) c)) (sym board) (s.lasting not);
  torn = λ disk. subst (λ (b : BoardView). ((s.entries ≡ []) × IsUntouched old.board b) ⊎ ((c : List ℕ) → b.images c → (next : List (Entry I)) × (length next ≤ 1) × Stands k.rules Z (H ++ (s.entries ++ next)) c)) (sym board) (s.torn disk);
  all = s.all;
  said = s.said;
  written = λ before is. wrote (before ++ (s.said ++ [])) (s.written before is) ∙ ap Some (append_assoc before (s.said ++ []) part ∙ ap (λ l. before ++ (l ++ part)) (append-nil s.said));
  whole = s.whole;
  cut = s.cut;
  full = s.full;
}

answers_with : {I M : Type 0} (k : Kind I M) (item_at : Arrival → Option I) (most : ℕ) (Z : List ℕ) (H : List (Entry I)) (before : Arrivals) (old mid new : Around) (end : Ending) (part : List ℕ) → new.board ≡ mid.board → new.arrivals ≡ mid.arrivals
    → ((text : List ℕ) → mid.written ≡ Some text → new.written ≡ Some (text ++ part)) → FeedAnswers k item_at most Z H before old mid end [] → FeedAnswers k item_at most Z H before old new end part
unfolding stores_with
answers_with k item_at most Z H before old mid new end part board arrivals wrote a = record {
  fresh = a.fresh;
  after = a.after;
  left = arrivals ∙ a.left;
  coming = a.coming;
  given = a.given;
  at_most = a.at_most;
  headline = subst (RunKeeps k.rules Z H (items_given item_at a.fresh) old.board) (sym board) a.headline;
  stores = stores_with k Z H (items_given item_at a.fresh) old mid new end part board wrote a.stores;
  few = a.few;
  all = a.all;
  idle = a.idle;
  done = a.done;
  other = a.other;
  is_other = a.is_other;
  untouched = λ unfinished. let u = a.untouched unfinished in (subst (IsUntouched old.board) (sym board) u.0, u.1);
  formatted = a.formatted;
  is_full = a.is_full;
}

-- which failure, or what lacked, ended a run that might have been done
by_end : {I M : Type 0} (k : Kind I M) (item_at : Arrival → Option I) (most : ℕ) (Z : List ℕ) (H : List (Entry I)) (before : Arrivals) (old new : Around) (end : Ending) (part : List ℕ) → FeedAnswers k item_at most Z H before old new end part → MayEnd k item_at most Z H before → IsFeedEnd end
    → ((count : ℕ) × (end ≡ ending.Done count)) ⊎ ((end ≡ ending.Memory) ⊎ ((end ≡ ending.Input) ⊎ ((end ≡ ending.Disk) ⊎ (end ≡ ending.Output))))
by_end k item_at most Z H before old new (ending.Done count) part a may is = inl (count, refl)
by_end k item_at most Z H before old new (ending.Unfinished id count) part a may is = absurd (may.no_other (names_some (script_of k.scripts H) id count (a.other id count refl)))
by_end k item_at most Z H before old new ending.Unformatted part a may is = absurd (a.formatted refl)
by_end k item_at most Z H before old new ending.Input part a may is = inr (inr (inl refl))
by_end k item_at most Z H before old new ending.Disk part a may is = inr (inr (inr (inl refl)))
by_end k item_at most Z H before old new ending.Output part a may is = inr (inr (inr (inr refl)))
by_end k item_at most Z H before old new ending.Memory part a may is = inr (inl refl)
by_end k item_at most Z H before old new ending.Full part a may is =
    absurd (⊎_elim (λ lacks. let l = lacks_of k Z H (items_given item_at a.fresh) a.stores.rest a.stores.entries a.stores.lawful a.stores.taken lacks in may.room a.fresh (a.after.coming, sym a.coming) a.at_most l.0 l.1) may.none_over (a.stores.full refl))
by_end k item_at most Z H before old new (ending.Line number) part a may is = absurd is
by_end k item_at most Z H before old new ending.Usage part a may is = absurd is
by_end k item_at most Z H before old new (ending.Settings refusal) part a may is = absurd is
by_end k item_at most Z H before old new ending.Formatted part a may is = absurd is

-- from what a run does to its call
pub feed_call : {I M : Type 0} (k : Kind I M) (item_at : Arrival → Option I) (most : ℕ) (old mid new : Around) (end : Ending) (status : ℕ) → Performs k item_at most old mid end → new.board ≡ mid.board → new.arrivals ≡ mid.arrivals → new.misses ≡ mid.misses
    → Finishes mid.written new.written mid.writes new.writes end status → FeedCall k item_at most old new status
feed_call {I} {M} k item_at most old mid new end status p board arrivals misses finishes =
    let e = ended mid.written new.written mid.writes new.writes end status finishes in
    let c = p.counts in
    let tells : IsTrue new.board.tells → IsTrue mid.board.tells = λ t. subst (λ (b : BoardView). IsTrue b.tells) board t in
    let later : old.writes ≤ new.writes = omega (arith, c.writes_later, e.later) in
    let rose_writes = λ (r : Rose mid.writes new.writes). rose_on old.writes mid.writes new.writes c.writes_later r in
    let ends = ends_from end e.part old.writes mid.writes new.writes status e.ends rose_writes in record {
      end = end;
      part = e.part;
      ends = ends;
      is_end = p.is_end;
      answers = λ t Z H before lawful stands is. answers_with k item_at most Z H before old mid new end e.part board arrivals e.wrote (p.answers (tells t) Z H before lawful stands is);
      unformatted = λ is t. p.unformatted is (tells t);
      is_unformatted = λ t none. let r = p.refuses (tells t) none in (r.0, subst (IsUntouched old.board) (sym board) r.1);
      alone = λ why. let q = p.quiet (⊎_elim inl (λ n. inr (tells n.0, n.1)) why) in (arrivals ∙ q.1, λ text is. e.wrote text (q.0 ∙ is));
      input = λ is. omega (arith, misses, c.reads is);
      disk = λ is. subst (λ (b : BoardView). Rose old.board.disk_faults b.disk_faults) (sym board) (c.board.disk is);
      output = λ is. omega (arith, c.writes is, e.later);
      disk_same = λ not. ap (λ (b : BoardView). b.disk_faults) board ∙ c.board.same not;
      input_same = λ not. misses ∙ c.reads_same not;
      calm = λ zero.
          let z = status_zero end mid.written new.written mid.writes new.writes (subst (Finishes mid.written new.written mid.writes new.writes end) zero finishes) in
          let not = λ (other : Ending) (clash : (count : ℕ) → ending.Done count ≡ other → ⊥) (is : end ≡ other). clash z.0.0 (sym z.0.1 ∙ is) in (
            ap (λ (b : BoardView). b.disk_faults) board ∙ c.board.same (not ending.Disk (λ count d. cc d)),
            misses ∙ c.reads_same (not ending.Input (λ count d. cc d)),
            z.1 ∙ c.writes_same (not ending.Output (λ count d. cc d)),
          );
      memory = λ is. ⊎_elim inl (λ m. inr (λ t. subst (IsUntouched old.board) (sym board) (m (tells t)))) (p.memory is);
      tells = λ t. c.board.tells (tells t);
      goes_on = λ t. subst (λ (b : BoardView). IsTrue b.tells ⊎ Rose old.board.issue_faults b.issue_faults) (sym board) (c.board.goes_on t);
      complete = λ t Z H before lawful stands is may.
          let a = p.answers (tells t) Z H before lawful stands is in
          ⊎_elim (λ d. ⊎_elim inl (λ r. inr (inr (inr (inr (rose_writes r))))) (done_ends d.0 e.part mid.writes new.writes status (subst (λ x. EndsWith x e.part mid.writes new.writes status) d.1 e.ends)))
          (λ more. inr (⊎_elim (λ is. inl (memory_ends e.part mid.writes new.writes status (subst (λ x. EndsWith x e.part mid.writes new.writes status) is e.ends)))
          (λ rest. inr (⊎_elim (λ is. inl (omega (arith, misses, c.reads is)))
          (λ two. inr (⊎_elim (λ is. inl (subst (λ (b : BoardView). Rose old.board.disk_faults b.disk_faults) (sym board) (c.board.disk is))) (λ is. inr (omega (arith, c.writes is, e.later))) two)) rest)) more))
          (by_end k item_at most Z H before old mid end [] a may p.is_end);
    }
  where
    rose_on : (a b c : ℕ) → a ≤ b → Rose b c → Rose a c
    rose_on a b c le rose = omega (arith, le, rose)

    ends_from : (end : Ending) (part : List ℕ) (a b c status : ℕ) → EndsWith end part b c status → (Rose b c → Rose a c) → EndsWith end part a c status
    ends_from end part a b c status (inl ends) rose = inl ends
    ends_from end part a b c status (inr ends) rose = inr (ends.0, rose ends.1, ends.2)
