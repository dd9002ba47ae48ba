-- The last line, and what the status says.
use Rattle.std.proofs.Common.{◌≡◌, ◌⊎◌, inl, inr, ⊎_elim, ℕ, ◌≤◌, length, List, [], ◌++◌, Option, Some, None, IsTrue, refl, sym, ◌∙◌, ap, subst, arith, append_assoc}
use Rattle.std.proofs.lemmas.List.{append-nil}
use Rattle.board_core.specs.Causes.{Rose}
use Rattle.board_core.specs.Board.{BoardView}
use Rattle.pef_engine.specs.declared.entry.Entry.{Entry}
use Rattle.pef_engine.specs.Rules.{Stands}
use Rattle.report_line.specs.declared.ending.Ending.{Ending}
use Rattle.report_line.specs.declared.ending.Ending.TheVariants.{Done, Usage, Unformatted, Line, Settings, Unfinished, Input, Disk, Output, Full, Memory, Formatted}
use Rattle.report_line.specs.Ending.{last_line}
use Rattle.report_line.specs.Finishing.{Finishes}
use Rattle.script_run.specs.Items.{text_says, items_of_text}
use Rattle.script_run.specs.Going.{Kind}
use Rattle.board_core.specs.Board.{tolds_of}
use Rattle.script_text.specs.Script.{lines_in}
use Rattle.script_run.specs.Lines.{FailsBefore, lines_read}
use Rattle.script_run.specs.Top.{Outside, IsUntouched, RunKeeps, ReadsTo, RunStores, RunAnswers, RunCall, EndsWith, MayEnd, IsRunEnd}
use Rattle.script_run.specs.Performing.{Performs}
use Rattle.script_run.proofs.TopLemmas.{lacks_of}

-- the same with what the last line added
module _ {I M : Type 0} (k : Kind I M) (Z : List ℕ) (H : List (Entry I)) (text : List ℕ) (old mid new : Outside) (end : Ending) (part : List ℕ) (board : new.board ≡ mid.board) (unread : new.unread ≡ mid.unread)
    (wrote : (before : List ℕ) → mid.written ≡ Some before → new.written ≡ Some (before ++ part)) where
  stores_with : {items : List I} → RunStores k Z H items old mid end [] → RunStores k Z H items old new end part
  stores_with {items} s = record {
    entries = s.entries;
    rest = s.rest;
    taken = s.taken;
    is_run = s.is_run;
    lawful = s.lawful;
    room = s.room;
    told = λ not. ap (λ (b : BoardView). tolds_of b.sent) board ∙ s.told not;
    stands = λ not. subst (λ (b : BoardView). Stands k.rules Z (H ++ s.entries) b.octets) (sym board) (s.stands not);
    lasting = λ not. subst (λ (b : BoardView). IsUntouched old.board b ⊎ ((c : List ℕ) → b.images c → Stands k.rules Z (H ++ s.entries) c)) (sym board) (s.lasting not);
    torn = λ disk. subst (λ (b : BoardView). ((s.entries ≡ []) × IsUntouched old.board b) ⊎ ((c : List ℕ) → b.images c → (next : List (Entry I)) × (length next ≤ 1) × Stands k.rules Z (H ++ (s.entries ++ next)) c)) (sym board) (s.torn disk);
    all = s.all;
    said = s.said;
    written = λ before is. wrote (before ++ (s.said ++ [])) (s.written before is) ∙ ap Some (append_assoc before (s.said ++ []) part ∙ ap (λ l. before ++ (l ++ part)) (append-nil s.said));
    whole = s.whole;
    cut = s.cut;
    full = s.full;
  }

  pub answers_with : RunAnswers k Z H text old mid end [] → RunAnswers k Z H text old new end part
  unfolding stores_with
  answers_with a = record {
    headline = subst (RunKeeps k.rules Z H (items_of_text k.scripts text H) old.board) (sym board) a.headline;
    stores = stores_with a.stores;
    idle = a.idle;
    done = a.done;
    bad = a.bad;
    other = a.other;
    is_other = a.is_other;
    headless = a.headless;
    untouched = λ why. subst (IsUntouched old.board) (sym board) (a.untouched why);
    formatted = a.formatted;
    is_full = a.is_full;
    far = λ count e. subst (ReadsTo (lines_in (text_says k.scripts text)) text) (sym unread) (a.far count e);
    not_far = λ e. subst (FailsBefore (lines_read (text_says k.scripts text)) text) (sym unread) (a.not_far e);
    other_far = λ id count e. subst (ReadsTo 1 text) (sym unread) (a.other_far id count e);
    other_not_far = λ o e. subst (FailsBefore 1 text) (sym unread) (a.other_not_far o e);
  }

-- which failure, or what lacked, ended a run that might have been done
by_end : {I M : Type 0} (k : Kind I M) (Z : List ℕ) (H : List (Entry I)) (text : List ℕ) (old new : Outside) (end : Ending) (part : List ℕ) → RunAnswers k Z H text old new end part → MayEnd k Z H text → IsRunEnd end
    → ((count : ℕ) × (end ≡ Done count)) ⊎ ((end ≡ Memory) ⊎ ((end ≡ Input) ⊎ ((end ≡ Disk) ⊎ (end ≡ Output))))
by_end k Z H text old new (Done count) part a may is = inl (count, refl)
by_end k Z H text old new (Line number) part a may is = absurd (let clash : None ≡ Some number = sym may.good ∙ (a.bad number refl).0 in cc clash)
by_end k Z H text old new (Unfinished id count) part a may is = absurd (may.no_other (a.other id count refl).0)
by_end k Z H text old new Unformatted part a may is = absurd (a.formatted refl)
by_end k Z H text old new Input part a may is = inr (inr (inl refl))
by_end k Z H text old new Disk part a may is = inr (inr (inr (inl refl)))
by_end k Z H text old new Output part a may is = inr (inr (inr (inr refl)))
by_end k Z H text old new Memory part a may is = inr (inl refl)
by_end k Z H text old new Full part a may is = absurd (⊎_elim (λ lacks. let l = lacks_of k Z H _ a.stores.rest a.stores.entries a.stores.lawful a.stores.taken lacks in may.room l.0 l.1) may.none_over (a.stores.full refl))
by_end k Z H text old new Usage part a may is = absurd is
by_end k Z H text old new (Settings refusal) part a may is = absurd is
by_end k Z H text old new Formatted part a may is = absurd is

-- the part of the last line that was written, with what else the sink says
pub record Ended (mid new : Option (List ℕ)) (before after : ℕ) (end : Ending) (status : ℕ) : Type 0 where
  pub part : List ℕ
  pub ends : EndsWith end part before after status
  pub wrote : (text : List ℕ) → mid ≡ Some text → new ≡ Some (text ++ part)
  pub later : before ≤ after

pub ended : (mid new : Option (List ℕ)) (before after : ℕ) (end : Ending) (status : ℕ) → Finishes mid new before after end status → Ended mid new before after end status
ended mid new before after end status (inl (says, is)) = record { part = last_line end; ends = inl (refl, is); wrote = says.written; later = omega (arith, says.faults) }
ended None new before after end status (inr (fails, is)) = record { part = []; ends = inr ((last_line end, refl), fails.rose, is); wrote = λ text e. absurd (cc e); later = fails.faults }
ended (Some text) new before after end status (inr (fails, is)) =
    let w = fails.written text refl in record { part = w.0; ends = inr (w.2, fails.rose, is); wrote = λ other e. let same : text ≡ other = cc e in w.1 ∙ ap (λ t. Some (t ++ w.0)) same; later = fails.faults }

-- status 0 comes only where all was done and said
pub status_zero : (end : Ending) (mid new : Option (List ℕ)) (before after : ℕ) → Finishes mid new before after end 0 → ((count : ℕ) × (end ≡ Done count)) × (after ≡ before)
status_zero (Done count) mid new before after (inl (says, zero)) = ((count, refl), says.faults)
status_zero (Done count) mid new before after (inr (fails, zero)) = absurd (omega (arith, zero))
status_zero Unformatted mid new before after f = absurd (⊎_elim (λ x. omega (arith, x.1)) (λ x. omega (arith, x.1)) f)
status_zero (Line number) mid new before after f = absurd (⊎_elim (λ x. omega (arith, x.1)) (λ x. omega (arith, x.1)) f)
status_zero (Unfinished id count) mid new before after f = absurd (⊎_elim (λ x. omega (arith, x.1)) (λ x. omega (arith, x.1)) f)
status_zero Input mid new before after f = absurd (⊎_elim (λ x. omega (arith, x.1)) (λ x. omega (arith, x.1)) f)
status_zero Disk mid new before after f = absurd (⊎_elim (λ x. omega (arith, x.1)) (λ x. omega (arith, x.1)) f)
status_zero Output mid new before after f = absurd (⊎_elim (λ x. omega (arith, x.1)) (λ x. omega (arith, x.1)) f)
status_zero Full mid new before after f = absurd (⊎_elim (λ x. omega (arith, x.1)) (λ x. omega (arith, x.1)) f)
status_zero Memory mid new before after f = absurd (⊎_elim (λ x. omega (arith, x.1)) (λ x. omega (arith, x.1)) f)
status_zero Usage mid new before after f = absurd (⊎_elim (λ x. omega (arith, x.1)) (λ x. omega (arith, x.1)) f)
status_zero (Settings refusal) mid new before after f = absurd (⊎_elim (λ x. omega (arith, x.1)) (λ x. omega (arith, x.1)) f)
status_zero Formatted mid new before after f = absurd (⊎_elim (λ x. omega (arith, x.1)) (λ x. omega (arith, x.1)) f)

pub done_ends : (count : ℕ) (part : List ℕ) (before after status : ℕ) → EndsWith (Done count) part before after status → (status ≡ 0) ⊎ Rose before after
done_ends count part before after status (inl ends) = inl ends.1
done_ends count part before after status (inr ends) = inr ends.1

pub memory_ends : (part : List ℕ) (before after status : ℕ) → EndsWith Memory part before after status → status ≡ 10
memory_ends part before after status (inl ends) = ends.1
memory_ends part before after status (inr ends) = ends.2

-- from what a run does to its call
pub run_call : {I M : Type 0} (k : Kind I M) (old mid new : Outside) (end : Ending) (status : ℕ) → Performs k old mid end → new.board ≡ mid.board → new.unread ≡ mid.unread → new.reads ≡ mid.reads
    → Finishes mid.written new.written mid.writes new.writes end status → RunCall k old new status
run_call {I} {M} k old mid new end status p board unread reads finishes =
    let e = ended mid.written new.written mid.writes new.writes end status finishes in
    let c = p.counts in
    let tells : IsTrue new.board.tells → IsTrue mid.board.tells = λ t. subst (λ (b : BoardView). IsTrue b.tells) board t in
    let later : old.writes ≤ new.writes = omega (arith, c.writes_later, e.later) in
    let rose_writes = λ (r : Rose mid.writes new.writes). rose_on old.writes mid.writes new.writes c.writes_later r in
    let ends = ends_from end e.part old.writes mid.writes new.writes status e.ends rose_writes in record {
      end = end;
      part = e.part;
      ends = ends;
      is_end = p.is_end;
      answers = λ t Z H text lawful stands left. answers_with k Z H text old mid new end e.part board unread e.wrote (p.answers (tells t) Z H text lawful stands left);
      unformatted = λ is t. p.unformatted is (tells t);
      is_unformatted = λ t none. let r = p.refuses (tells t) none in (r.0, subst (IsUntouched old.board) (sym board) r.1);
      alone = λ why text is. e.wrote text (p.quiet (⊎_elim inl (λ n. inr (tells n.0, n.1)) why) ∙ is);
      input = λ is. omega (arith, reads, c.reads is);
      disk = λ is. subst (λ (b : BoardView). Rose old.board.disk_faults b.disk_faults) (sym board) (c.board.disk is);
      output = λ is. omega (arith, c.writes is, e.later);
      disk_same = λ not. ap (λ (b : BoardView). b.disk_faults) board ∙ c.board.same not;
      input_same = λ not. reads ∙ c.reads_same not;
      calm = λ zero.
          let z = status_zero end mid.written new.written mid.writes new.writes (subst (Finishes mid.written new.written mid.writes new.writes end) zero finishes) in
          let not = λ (other : Ending) (clash : (count : ℕ) → Done count ≡ other → ⊥) (is : end ≡ other). clash z.0.0 (sym z.0.1 ∙ is) in (
            ap (λ (b : BoardView). b.disk_faults) board ∙ c.board.same (not Disk (λ count d. cc d)),
            reads ∙ c.reads_same (not Input (λ count d. cc d)),
            z.1 ∙ c.writes_same (not Output (λ count d. cc d)),
          );
      memory = λ is. ⊎_elim inl (λ m. inr (λ t. subst (IsUntouched old.board) (sym board) (m (tells t)))) (p.memory is);
      tells = λ t. c.board.tells (tells t);
      goes_on = λ t. subst (λ (b : BoardView). IsTrue b.tells ⊎ Rose old.board.issue_faults b.issue_faults) (sym board) (c.board.goes_on t);
      complete = λ t Z H text lawful stands left may.
          let a = p.answers (tells t) Z H text lawful stands left in
          ⊎_elim (λ d. ⊎_elim inl (λ r. inr (inr (inr (inr (rose_writes r))))) (done_ends d.0 e.part mid.writes new.writes status (subst (λ x. EndsWith x e.part mid.writes new.writes status) d.1 e.ends)))
          (λ more. inr (⊎_elim (λ is. inl (memory_ends e.part mid.writes new.writes status (subst (λ x. EndsWith x e.part mid.writes new.writes status) is e.ends)))
          (λ rest. inr (⊎_elim (λ is. inl (omega (arith, reads, c.reads is)))
          (λ two. inr (⊎_elim (λ is. inl (subst (λ (b : BoardView). Rose old.board.disk_faults b.disk_faults) (sym board) (c.board.disk is))) (λ is. inr (omega (arith, c.writes is, e.later))) two)) rest)) more))
          (by_end k Z H text old mid end [] a may p.is_end);
    }
  where
    rose_on : (a b c : ℕ) → a ≤ b → Rose b c → Rose a c
    rose_on a b c le rose = omega (arith, le, rose)

    ends_from : (end : Ending) (part : List ℕ) (a b c status : ℕ) → EndsWith end part b c status → (Rose b c → Rose a c) → EndsWith end part a c status
    ends_from end part a b c status (inl ends) rose = inl ends
    ends_from end part a b c status (inr ends) rose = inr (ends.0, rose ends.1, ends.2)
