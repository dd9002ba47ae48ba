-- From opening a state file and writing what it holds to a call of `list` or `show`.
use Rattle.std.proofs.Common.{◌≡◌, ◌≢◌, ◌⊎◌, inl, inr, ⊎_elim, ℕ, ◌≤◌, List, [], ◌∷◌, ◌++◌, length, append_assoc, Option, Some, Ok, Err, refl, sym, ◌∙◌, ap, subst, arith}
use Rattle.std.proofs.lemmas.List.{append-nil}
use Rattle.board_core.specs.Causes.{Rose}
use Rattle.board_core.specs.Board.{BoardView}
use Rattle.pef_engine.specs.declared.engine.Engine.{Engine}
use Rattle.pef_engine.specs.declared.entry.Entry.{Entry}
use Rattle.pef_engine.specs.declared.faults.EngineFault.{EngineFault}
use Rattle.pef_engine.specs.declared.faults.EngineFault.TheVariants as fault
use Rattle.pef_engine.specs.Engine.{Opens, MayStop, HasOpenCause}
use Rattle.pef_engine.specs.Rules.{WasOver}
use Rattle.report_line.specs.declared.ending.Ending.{Ending}
use Rattle.report_line.specs.declared.ending.Ending.TheVariants.{Done, Usage, Unformatted, Line, Settings, Unfinished, Input, Disk, Output, Full, Memory, Formatted}
use Rattle.report_line.specs.Ending.{last_line}
use Rattle.report_line.specs.Finishing.{Finishes}
use Rattle.script_run.specs.Performing.{open_ending}
use Rattle.script_run.specs.Top.{Outside, EndsWith, MayRefuse}
use Rattle.script_run.proofs.EndLemmas.{ended, status_zero, done_ends, memory_ends}
use Rattle.trap_console.specs.declared.console.Console.{Console}
use Rattle.trap_console.specs.declared.item.Item.{Item}
use Rattle.trap_console.specs.Heard.{rows_of}
use Rattle.trap_console.specs.Histories.{console_rules}
use Rattle.trap_console.specs.Listing.{listed}
use Rattle.trap_console.specs.View.{ShowsConsole, view_of}
use Rattle.pef_call.specs.Receiving.{console_kind}
use Rattle.pef_call.specs.Listing.{Page, IsRowless, IsShownEnd, Wrote, WrotePart, MayAnswer, Shows, Lists, sourceless}

module _ {I M : Type 0} (p : Page I M) where
  -- how a call ends whose file isn't opened
  rowless : (f : EngineFault) → IsRowless (open_ending f)
  rowless fault.NotFormatted = tt
  rowless (fault.Corrupt at) = tt
  rowless fault.DiskFault = tt
  rowless fault.Full = tt
  rowless (fault.Memory error) = tt

  may_stop : (Z : List ℕ) (H : List (Entry I)) (f : EngineFault) → MayStop p.kind.rules Z H f → MayAnswer p Z H (open_ending f)
  may_stop Z H fault.NotFormatted may = may
  may_stop Z H (fault.Corrupt at) may = may
  may_stop Z H fault.DiskFault may = tt
  may_stop Z H fault.Full may = may
  may_stop Z H (fault.Memory error) may = tt

  may_refuse : (file : List ℕ) (f : EngineFault) → HasOpenCause p.kind.rules file f → MayRefuse p.kind file (open_ending f)
  may_refuse file fault.NotFormatted cause = tt
  may_refuse file (fault.Corrupt at) cause = tt
  may_refuse file fault.DiskFault cause = tt
  may_refuse file fault.Full cause = cause
  may_refuse file (fault.Memory error) cause = tt

  disk_at : (f : EngineFault) → open_ending f ≡ Disk → f ≡ fault.DiskFault
  disk_at fault.NotFormatted e = absurd (cc e)
  disk_at (fault.Corrupt at) e = absurd (cc e)
  disk_at fault.DiskFault e = refl
  disk_at fault.Full e = absurd (cc e)
  disk_at (fault.Memory error) e = absurd (cc e)

  -- an end of one sort is none of the other
  not_both : (end : Ending) → IsShownEnd end → IsRowless end → ⊥
  not_both (Done count) shown rowless = rowless
  not_both Output shown rowless = rowless
  not_both Unformatted shown rowless = shown
  not_both Disk shown rowless = shown
  not_both Full shown rowless = shown
  not_both Memory shown rowless = shown
  not_both Usage shown rowless = shown
  not_both (Line number) shown rowless = shown
  not_both (Settings refusal) shown rowless = shown
  not_both (Unfinished id count) shown rowless = shown
  not_both Input shown rowless = shown
  not_both Formatted shown rowless = shown

  may_show : (Z : List ℕ) (H : List (Entry I)) (end : Ending) → IsShownEnd end → ((count : ℕ) → end ≡ Done count → count ≡ p.count Z H) → MayAnswer p Z H end
  may_show Z H (Done count) is counted = counted count refl
  may_show Z H Output is counted = tt
  may_show Z H Unformatted is counted = is
  may_show Z H Disk is counted = absurd is
  may_show Z H Full is counted = absurd is
  may_show Z H Memory is counted = absurd is
  may_show Z H Usage is counted = is
  may_show Z H (Line number) is counted = is
  may_show Z H (Settings refusal) is counted = is
  may_show Z H (Unfinished id count) is counted = is
  may_show Z H Input is counted = is
  may_show Z H Formatted is counted = is

  module _ (old : Outside) where
    -- the file isn't opened
    pub shows_not : (new : BoardView) (f : EngineFault) → Opens {M = M} p.kind.rules p.kind.view old.board new (Err f) → Shows p old (sourceless new old.written old.writes) (open_ending f)
    shows_not new f o = record {
      is_end = inr (rowless f);
      run = o.run;
      untouched = λ t. record { octets = o.octets t; sent = o.run.sent t; moments = o.moments t };
      answers = λ t Z H lawful stands. may_stop Z H f (o.opened t Z H lawful stands).stops;
      rows = λ count e. absurd (subst IsRowless e (rowless f));
      cut = λ e. absurd (subst IsRowless e (rowless f));
      none = λ r. refl;
      unformatted = λ e t Z H lawful stands. subst (MayAnswer p Z H) e (may_stop Z H f (o.opened t Z H lawful stands).stops);
      is_unformatted = λ t none. may_refuse old.board.octets f (o.causes t);
      disk = λ e. o.counts.disk (ap Err (disk_at f e));
      disk_same = λ not. o.counts.same (λ e. not (let is : f ≡ fault.DiskFault = cc e in ap open_ending is));
      output = λ e. absurd (subst IsRowless e (rowless f));
      output_same = λ not. refl;
      writes_later = omega arith;
    }

    -- the file is opened, and the rows are written
    pub shows : (mid : BoardView) (engine : Engine M I) (after : Option (List ℕ)) (writes : ℕ) (end : Ending) → Opens {M = M} p.kind.rules p.kind.view old.board mid (Ok engine) → IsShownEnd end
        → ((count : ℕ) → end ≡ Done count → (Z : List ℕ) (H : List (Entry I)) → (p.kind.view engine.machine).shows Z H → count ≡ p.count Z H)
        → ((count : ℕ) → end ≡ Done count → (Z : List ℕ) (H : List (Entry I)) → (p.kind.view engine.machine).shows Z H → Wrote (p.lines Z H) old.written after)
        → (end ≡ Output → (Z : List ℕ) (H : List (Entry I)) → (p.kind.view engine.machine).shows Z H → WrotePart (p.lines Z H) old.written after)
        → (end ≡ Output → Rose old.writes writes) → (end ≢ Output → writes ≡ old.writes) → old.writes ≤ writes → Shows p old (sourceless mid after writes) end
    shows mid engine after writes end o is counted rows cut output same later = record {
      is_end = inl is;
      run = o.run;
      untouched = λ t. record { octets = o.octets t; sent = o.run.sent t; moments = o.moments t };
      answers = λ t Z H lawful stands. may_show Z H end is (λ count e. counted count e Z H (o.opened t Z H lawful stands).holds.shows);
      rows = λ count e t Z H lawful stands. rows count e Z H (o.opened t Z H lawful stands).holds.shows;
      cut = λ e t Z H lawful stands. cut e Z H (o.opened t Z H lawful stands).holds.shows;
      none = λ r. absurd (not_both end is r);
      unformatted = λ e. absurd (subst IsShownEnd e is);
      is_unformatted = λ t none. let s = o.stands t in absurd (none s.0 s.1 s.2 s.3);
      disk = λ e. absurd (subst IsShownEnd e is);
      disk_same = λ not. o.counts.same (λ e. cc e);
      output = output;
      output_same = same;
      writes_later = later;
    }

  -- at status 0 the last line is whole, and where the sink failed there is none
  whole_line : (count : ℕ) (part : List ℕ) (before after : ℕ) → EndsWith (Done count) part before after 0 → part ≡ last_line (Done count)
  whole_line count part before after (inl e) = e.0
  whole_line count part before after (inr e) = absurd (omega (arith, e.2))

  no_octets : (part rest : List ℕ) → part ++ rest ≡ [] → part ≡ []
  no_octets [] rest e = refl
  no_octets (octet ∷ part) rest e = absurd (cc e)

  no_line : (part : List ℕ) (before after status : ℕ) → EndsWith Output part before after status → part ≡ []
  no_line part before after status (inl e) = e.0
  no_line part before after status (inr e) = no_octets part e.0.0 e.0.1

  -- which end a call has that might show all
  by_end : (Z : List ℕ) (H : List (Entry I)) (end : Ending) → MayAnswer p Z H end → (WasOver p.kind.rules Z H → ⊥) → ((count : ℕ) × (end ≡ Done count)) ⊎ ((end ≡ Memory) ⊎ ((end ≡ Disk) ⊎ (end ≡ Output)))
  by_end Z H (Done count) may over = inl (count, refl)
  by_end Z H Memory may over = inr (inl refl)
  by_end Z H Disk may over = inr (inr (inl refl))
  by_end Z H Output may over = inr (inr (inr refl))
  by_end Z H Full may over = absurd (over may)
  by_end Z H Unformatted may over = absurd may
  by_end Z H Usage may over = absurd may
  by_end Z H (Line number) may over = absurd may
  by_end Z H (Settings refusal) may over = absurd may
  by_end Z H (Unfinished id count) may over = absurd may
  by_end Z H Input may over = absurd may
  by_end Z H Formatted may over = absurd may

  pub lists : (old : Outside) (board : BoardView) (mid new : Option (List ℕ)) (before after : ℕ) (end : Ending) (status : ℕ) → Shows p old (sourceless board mid before) end → Finishes mid new before after end status
      → Lists p old (sourceless board new after) status
  lists old board mid new before after end status s finishes =
      let e = ended mid new before after end status finishes in
      let later : old.writes ≤ before = s.writes_later in record {
        end = end;
        part = e.part;
        ends = from_start e.part e.ends later;
        is_end = s.is_end;
        untouched = s.untouched;
        shown = λ zero t Z H lawful stands text told.
            let z = status_zero end mid new before after (subst (Finishes mid new before after end) zero finishes) in
            let count = z.0.0 in
            let done : end ≡ Done count = z.0.1 in
            let counted : count ≡ p.count Z H = subst (MayAnswer p Z H) done (s.answers t Z H lawful stands) in
            let line : e.part ≡ last_line (Done count) = whole_line count e.part before after (subst (λ x. EndsWith x e.part before after 0) done (subst (EndsWith end e.part before after) zero e.ends)) in
            e.wrote (text ++ p.lines Z H) (s.rows count done t Z H lawful stands text told)
            ∙ ap Some (append_assoc text (p.lines Z H) e.part ∙ ap (λ l. text ++ (p.lines Z H ++ l)) (line ∙ ap (λ n. last_line (Done n)) counted));
        cut = λ is t Z H lawful stands text told.
            let c = s.cut is t Z H lawful stands text told in
            let line : e.part ≡ [] = no_line e.part before after status (subst (λ x. EndsWith x e.part before after status) is e.ends) in
            (c.0, c.1, e.wrote (text ++ c.0) c.2 ∙ ap Some (ap (λ l. (text ++ c.0) ++ l) line ∙ append-nil (text ++ c.0)));
        none = λ r text told. e.wrote text (s.none r ∙ told);
        answers = s.answers;
        unformatted = s.unformatted;
        is_unformatted = s.is_unformatted;
        disk = s.disk;
        disk_same = s.disk_same;
        output = λ is. let rose = s.output is in let more = e.later in omega (arith, rose, more);
        calm = λ zero.
            let z = status_zero end mid new before after (subst (Finishes mid new before after end) zero finishes) in
            (s.disk_same (λ is. done_not z.0.0 end z.0.1 Disk (λ x. cc x) is), z.1 ∙ s.output_same (λ is. done_not z.0.0 end z.0.1 Output (λ x. cc x) is));
        tells = s.run.tells;
        goes_on = s.run.goes_on;
        complete = λ t Z H lawful stands over.
            ⊎_elim (λ d. ⊎_elim inl (λ rose. inr (inr (inr (omega (arith, later, rose))))) (done_ends d.0 e.part before after status (subst (λ x. EndsWith x e.part before after status) d.1 e.ends)))
            (λ more. inr (⊎_elim (λ is. inl (memory_ends e.part before after status (subst (λ x. EndsWith x e.part before after status) is e.ends)))
            (λ two. inr (⊎_elim (λ is. inl (s.disk is)) (λ is. inr (let rose = s.output is in let more = e.later in omega (arith, rose, more))) two)) more))
            (by_end Z H end (s.answers t Z H lawful stands) over);
      }
    where
      done_not : (count : ℕ) (end : Ending) → end ≡ Done count → (other : Ending) → (Done count ≡ other → ⊥) → end ≡ other → ⊥
      done_not count end done other clash is = clash (sym done ∙ is)

      from_start : (part : List ℕ) → EndsWith end part before after status → old.writes ≤ before → EndsWith end part old.writes after status
      from_start part (inl x) le = inl x
      from_start part (inr x) le = inr (x.0, (let rose = x.1 in omega (arith, rose, le)), x.2)
