-- From the opening and the script to the call.
use Rattle.std.proofs.Common.{◌≡◌, inl, inr, ⊎_elim, ℕ, List, [], Option, Some, None, IsTrue, refl, sym, ap, subst, arith, Result, Ok, Err}
use Rattle.board_core.specs.Board.{BoardView, IsSound}
use Rattle.pef_engine.specs.declared.entry.Entry.{Entry}
use Rattle.pef_engine.specs.declared.engine.Engine.{Engine}
use Rattle.pef_engine.specs.declared.faults.EngineFault.{EngineFault}
use Rattle.pef_engine.specs.declared.faults.EngineFault.TheVariants as fault
use Rattle.pef_engine.specs.Rules.{Lawful}
use Rattle.pef_engine.specs.MachineView.{Agrees}
use Rattle.pef_engine.specs.Scripts.{script_of}
use Rattle.pef_engine.specs.Engine.{MayStop, HasOpenCause, Opens}
use Rattle.report_line.specs.declared.ending.Ending.TheVariants.{Unformatted, Input, Disk, Output}
use Rattle.script_run.specs.declared.stop.StepStop.TheVariants as step
use Rattle.script_run.specs.declared.stop.LineStop.TheVariants as line
use Rattle.script_run.specs.declared.stop.ScriptStop.{ScriptStop}
use Rattle.script_run.specs.declared.stop.ScriptStop.TheVariants as script
use Rattle.script_run.specs.Items.{IsOther, items_of_text, text_says}
use Rattle.script_run.specs.Going.{Kind, World, world}
use Rattle.script_run.specs.Lines.{input, Unread}
use Rattle.script_run.specs.Playing.{Plays}
use Rattle.script_run.specs.Performing.{script_ending, open_ending, Performs}
use Rattle.script_run.specs.Top.{Outside, outside, IsUntouched, MayEndAtOnce, MayRefuse, IsRunEnd}
use Rattle.script_run.proofs.GoingLemmas.{counts_then, counts_as}
use Rattle.script_run.proofs.TopLemmas.{run_keeps, open_keeps, answers_at_once, answers_of, moments_all, to_stop, to_end, answer, formatted_of}

-- how the opening of a file ended
pub at_once : {I M : Type 0} (k : Kind I M) (Z : List ℕ) (H : List (Entry I)) (f : EngineFault) → MayStop k.rules Z H f → MayEndAtOnce k Z H (open_ending f)
at_once k Z H fault.NotFormatted may = absurd may
at_once k Z H (fault.Corrupt at) may = absurd may
at_once k Z H fault.DiskFault may = tt
at_once k Z H fault.Full may = may
at_once k Z H (fault.Memory error) may = tt

pub may_refuse : {I M : Type 0} (k : Kind I M) (file : List ℕ) (f : EngineFault) → HasOpenCause k.rules file f → MayRefuse k file (open_ending f)
may_refuse k file fault.NotFormatted cause = tt
may_refuse k file (fault.Corrupt at) cause = tt
may_refuse k file fault.DiskFault cause = tt
may_refuse k file fault.Full cause = cause
may_refuse k file (fault.Memory error) cause = tt

pub not_input : (f : EngineFault) → open_ending f ≡ Input → ⊥
not_input fault.NotFormatted e = cc e
not_input (fault.Corrupt at) e = cc e
not_input fault.DiskFault e = cc e
not_input fault.Full e = cc e
not_input (fault.Memory error) e = cc e

pub not_output : (f : EngineFault) → open_ending f ≡ Output → ⊥
not_output fault.NotFormatted e = cc e
not_output (fault.Corrupt at) e = cc e
not_output fault.DiskFault e = cc e
not_output fault.Full e = cc e
not_output (fault.Memory error) e = cc e

pub disk_at : (f : EngineFault) → open_ending f ≡ Disk → f ≡ fault.DiskFault
disk_at fault.NotFormatted e = absurd (cc e)
disk_at (fault.Corrupt at) e = absurd (cc e)
disk_at fault.DiskFault e = refl
disk_at fault.Full e = absurd (cc e)
disk_at (fault.Memory error) e = absurd (cc e)

pub refused_at : {I M : Type 0} (k : Kind I M) (Z : List ℕ) (H : List (Entry I)) (f : EngineFault) → MayStop k.rules Z H f → open_ending f ≡ Unformatted → ⊥
refused_at k Z H fault.NotFormatted may e = may
refused_at k Z H (fault.Corrupt at) may e = may
refused_at k Z H fault.DiskFault may e = cc e
refused_at k Z H fault.Full may e = cc e
refused_at k Z H (fault.Memory error) may e = cc e

pub open_end : (f : EngineFault) → IsRunEnd (open_ending f)
open_end fault.NotFormatted = tt
open_end (fault.Corrupt at) = tt
open_end fault.DiskFault = tt
open_end fault.Full = tt
open_end (fault.Memory error) = tt

script_end : (result : Result ℕ ScriptStop) → IsRunEnd (script_ending result)
script_end (Ok n) = tt
script_end (Err (script.Unfinished i c)) = tt
script_end (Err (script.Lines (line.Line n))) = tt
script_end (Err (script.Lines line.Input)) = tt
script_end (Err (script.Lines (line.Step step.Disk))) = tt
script_end (Err (script.Lines (line.Step step.Output))) = tt
script_end (Err (script.Lines (line.Step step.Full))) = tt
script_end (Err (script.Lines (line.Step step.Memory))) = tt

module _ {I M : Type 0} (k : Kind I M) (old : Outside) where
  -- the file isn't opened
  pub performs_not : (new : BoardView) (f : EngineFault) → Opens {M = M} k.rules k.view old.board new (Err f) → IsSound new → Performs k old (outside new old.unread old.reads old.written old.writes) (open_ending f)
  performs_not new f o sound = record {
    is_end = open_end f;
    answers = λ t Z H text lawful stands left.
        let a = o.opened t Z H lawful stands in
        answers_at_once k Z H text old (outside new old.unread old.reads old.written old.writes) (open_ending f) (at_once k Z H f a.stops) (not_input f)
        (open_keeps k Z H (items_of_text k.scripts text H) old.board new sound t a.sent a.octets stands a.any_moment) (untouched t) stands refl;
    unformatted = λ e t Z H lawful stands. refused_at k Z H f (o.opened t Z H lawful stands).stops e;
    refuses = λ t none. (may_refuse k old.board.octets f (o.causes t), untouched t);
    quiet = λ why. refl;
    memory = λ e. inr untouched;
    counts = record {
      board = counts_as o.counts (λ e. ap Err (disk_at f e)) (λ e. let is : f ≡ fault.DiskFault = cc e in ap open_ending is);
      reads_later = omega arith;
      reads = λ e. absurd (not_input f e);
      reads_same = λ not. refl;
      writes_later = omega arith;
      writes = λ e. absurd (not_output f e);
      writes_same = λ not. refl;
    };
  }
    where
      untouched : IsTrue new.tells → IsUntouched old.board new
      untouched t = record { octets = o.octets t; sent = o.run.sent t; moments = o.moments t }

  -- the file is opened, and the script is run
  pub performs : (mid : BoardView) (first : Engine M I) (new : World I M) (held : List ℕ) (left : Option (List ℕ)) (faults : ℕ) (result : Result ℕ ScriptStop) → Opens {M = M} k.rules k.view old.board mid (Ok first)
      → Plays k (world mid first old.written old.writes) new (input [] old.unread old.reads) (input held left faults) result → IsSound new.board → Agrees k.rules (k.view new.engine.machine)
      → ((Z : List ℕ) (H : List (Entry I)) (text : List ℕ) → Lawful k.rules Z H → (k.view first.machine).shows Z H → old.unread ≡ Some text → IsOther (script_of k.scripts H) (text_says k.scripts text) → new.board ≡ mid)
      → ((text : List ℕ) → old.unread ≡ Some text → text_says k.scripts text ≡ None → new.board ≡ mid) → Performs k old (outside new.board left faults new.written new.faults) (script_ending result)
  performs mid first new held left faults result o p sound agrees refused headless =
      let c = p.goes.counts in record {
        is_end = script_end result;
        answers = λ t Z H text lawful stands is.
            let back = c.board.tells t in
            let a = o.opened back Z H lawful stands in
            let unread : Unread (input [] old.unread old.reads) text = record { rest = text; unread = is; whole = refl } in
            let w = p.goes.went t Z H a.holds in
            let untouched : IsUntouched old.board mid = record { octets = o.octets back; sent = o.run.sent back; moments = o.moments back } in
            answers_of k Z H text old (world mid first old.written old.writes) new (input held left faults) p.so_far result w (p.played Z H lawful a.holds.shows text unread) a.sent refl agrees
            (run_keeps k Z H (items_of_text k.scripts text H) old.board mid new.board stands a.synced a.sent (moments_all k Z H text old (world mid first old.written old.writes) new (input held left faults) p.so_far result w (p.played Z H lawful a.holds.shows text unread) a.sent refl) sound t)
            (λ why. subst (IsUntouched old.board) (sym (⊎_elim (λ other. refused Z H text lawful a.holds.shows is other) (λ none. headless text is none) why)) untouched) p.held;
        unformatted = λ e t. absurd (formatted_of result e);
        refuses = λ t none. let some = o.stands (c.board.tells t) in absurd (none some.0 some.1 some.2 some.3);
        quiet = λ why. ⊎_elim (λ e. absurd (formatted_of result e)) (λ n. let some = o.stands (c.board.tells n.0) in absurd (n.1 some.0 some.1 some.2 some.3)) why;
        memory = λ e. inl (c.memory (to_stop result step.Memory e));
        counts = record {
          board = counts_then o.counts (λ e. cc e) (counts_as c.board (λ e. to_stop result step.Disk e) (λ e. to_end result step.Disk e));
          reads_later = p.later;
          reads = λ e. p.failed (answer result Input e);
          reads_same = λ not. p.same (λ e. not (ap script_ending e));
          writes_later = c.later;
          writes = λ e. c.output (to_stop result step.Output e);
          writes_same = λ not. c.same (λ e. not (to_end result step.Output e));
        };
      }
