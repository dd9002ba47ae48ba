-- From the opening and the script behind it to the whole run.
use Rattle.std.proofs.Common.{◌≡◌, ◌≢◌, ◌⊎◌, inl, inr, ⊎_elim, ℕ, suc, ◌+◌, ◌≤◌, length, List, [], ◌∷◌, ◌++◌, map, Option, Some, None, IsTrue, refl, sym, ◌∙◌, ap, subst, arith, append_assoc, Result, Ok, Err}
use Rattle.std.specs.Prelude.{IsSome, IfSome, IfOk, IsFalse, Bool, true, false}
use Rattle.std.proofs.lemmas.List.{append-nil}
use Rattle.board_core.specs.declared.step.Told.{Told}
use Rattle.board_core.specs.Board.{Only, BoardView, CrashState, LeftNow, IsSound, LeavesOnly, SyncsFirst, NeverSynced, steps_of, tolds_of}
use Rattle.pef_journal.specs.Image as image
use Rattle.pef_journal.proofs.Moments.{leaves_map, syncs_map, syncs_then}
use Rattle.pef_engine.specs.declared.entry.Entry.{Entry}
use Rattle.pef_engine.specs.declared.entry.Entry.TheVariants.{Item, Outcome}
use Rattle.pef_engine.specs.declared.script.Script.{Script}
use Rattle.pef_engine.specs.Rules.{LawfulFrom, Stands}
use Rattle.pef_engine.specs.MachineView.{Agrees}
use Rattle.pef_engine.specs.CrashFree.{crash_free_run, crash_free_turn, crash_free_turns, LeavesPrefix, entry_items, entry_tolds, IsPrefixOf}
use Rattle.pef_engine.specs.Scripts.{script_of}
use Rattle.pef_engine.proofs.Compose.{run_goes_on, run_more}
use Rattle.pef_engine.proofs.Prefixes.{run_item, run_outcome}
use Rattle.pef_engine.proofs.Stored.{images_stand}
use Rattle.pef_engine.proofs.Moments.{leaves_start}
use Rattle.script_text.specs.Lines.{behind_lines}
use Rattle.script_text.specs.Script.{bad_line, lines_in, Said}
use Rattle.report_line.specs.declared.ending.Ending.{Ending}
use Rattle.report_line.specs.declared.ending.Ending.TheVariants.{Done, Unformatted, Line, Unfinished, Input, Disk, Output, Full, Memory}
use Rattle.script_run.specs.declared.stop.StepStop.{StepStop}
use Rattle.script_run.specs.declared.stop.StepStop.TheVariants as step
use Rattle.script_run.specs.declared.stop.LineStop.{LineStop}
use Rattle.script_run.specs.declared.stop.LineStop.TheVariants as line
use Rattle.script_run.specs.declared.stop.ScriptStop.{ScriptStop}
use Rattle.script_run.specs.declared.stop.ScriptStop.TheVariants as script
use Rattle.script_run.specs.Items.{IsOther, is_same, items_after, items_of_text, text_says}
use Rattle.script_run.specs.Room.{IsTooMuch, HadRoom, LacksRoom}
use Rattle.script_run.specs.Going.{Kind, World, ComesNext, LacksNext, Went}
use Rattle.script_run.specs.Lines.{Input as Source, Unread, up_to, lines_read, HasRead, IsRead, Answers as LineAnswers}
use Rattle.script_run.specs.Playing.{widen, script_step, IsUnread, NamesOther, Played}
use Rattle.script_run.specs.Performing.{step_ending, script_ending}
use Rattle.script_run.specs.Top.{Outside, outside, IsUntouched, RunKeeps, ReturnLeft, RunStores, RunAnswers, MayEndAtOnce, IsOfText, IsReadOut, IsFailure}
use Rattle.script_run.proofs.GoingLemmas.{some_is, comes_more, more_items}

module _ {I M : Type 0} (k : Kind I M) (Z : List ℕ) (H : List (Entry I)) where
  same_start : (items : List I) (old mid : BoardView) (left : CrashState) → mid.sent ≡ old.sent → LeavesPrefix k.rules Z H mid.sent items left → LeavesPrefix k.rules Z H old.sent items left
  same_start items old mid left sent here = subst (λ s. LeavesPrefix k.rules Z H s items left) sent here

  -- from a file that is all on the disk, a crash before the first sync leaves no further entry
  at_start : (items : List I) (old : BoardView) → Stands k.rules Z H old.octets → Only old.octets old.images → (c : CrashState) → LeftNow old c → LeavesPrefix k.rules Z H old.sent items c
  at_start items old stands only c now = leaves_start k.rules Z H old items c (record { issued = now.issued; told = now.told }) (subst (Stands k.rules Z H) (sym (only c.image now.image)) stands)

  in_whole_call : (items : List I) (old new : BoardView) → Stands k.rules Z H old.octets → (NeverSynced old new ⊎ SyncsFirst old new (LeavesPrefix k.rules Z H old.sent items))
      → Only old.octets old.images → (c : CrashState) → new.left_since old.moment c → LeavesPrefix k.rules Z H old.sent items c
  in_whole_call items old new stands (inl never) only c since = at_start items old stands only c (never.until c since)
  in_whole_call items old new stands (inr synced) only c since = ⊎_elim (at_start items old stands only c) (synced.since c) (synced.until c since)

  -- the headline, from the opening and the calls behind it
  pub run_keeps : (items : List I) (old mid new : BoardView) → Stands k.rules Z H old.octets → SyncsFirst old mid (LeavesPrefix k.rules Z H old.sent []) → mid.sent ≡ old.sent → LeavesOnly mid new (LeavesPrefix k.rules Z H mid.sent items) → IsSound new → IsTrue new.tells
      → RunKeeps k.rules Z H items old new
  run_keeps items old mid new stands first sent later sound tells = record {
    moments = inr moments_then;
    whole_call = in_whole_call items old new stands (inr moments_then);
    returned = same_start items old mid (ReturnLeft new) sent (later.each (ReturnLeft new)
        (sound.counts_now tells mid.moment (ReturnLeft new) later.later (record { image = sound.is_image tells; issued = refl; told = refl })));
  }
    where
      moments_then : SyncsFirst old new (LeavesPrefix k.rules Z H old.sent items)
      moments_then = syncs_then old mid new (LeavesPrefix k.rules Z H old.sent []) (LeavesPrefix k.rules Z H mid.sent items) (LeavesPrefix k.rules Z H old.sent items) first later
          (λ left p. more_items k Z H old [] items left p) (λ left q. same_start items old mid left sent q)

  -- what an opening that fails leaves
  pub open_keeps : (items : List I) (old new : BoardView) → IsSound new → IsTrue new.tells → new.sent ≡ old.sent → new.octets ≡ old.octets → Stands k.rules Z H old.octets → (NeverSynced old new ⊎ SyncsFirst old new (LeavesPrefix k.rules Z H old.sent []))
      → RunKeeps k.rules Z H items old new
  open_keeps items old new sound tells sent octets stands moments = record {
    moments = along;
    whole_call = in_whole_call items old new stands along;
    returned = leaves_start k.rules Z H old items (ReturnLeft new) (record { issued = ap steps_of sent; told = ap tolds_of sent }) (subst (Stands k.rules Z H) (sym octets) stands);
  }
    where
      along : NeverSynced old new ⊎ SyncsFirst old new (LeavesPrefix k.rules Z H old.sent items)
      along = ⊎_elim inl (λ s. inr (syncs_map old new (LeavesPrefix k.rules Z H old.sent []) (LeavesPrefix k.rules Z H old.sent items) (λ c p. more_items k Z H old [] items c p) s)) moments

  -- what was taken is the beginning of the run without a crash
  pub begins_run : (items rest : List I) (K : List (Entry I)) → LawfulFrom k.rules Z H K → entry_items K ++ rest ≡ items → IsPrefixOf K (crash_free_run k.rules Z H items (entry_tolds K))
  begins_run items rest K lawful taken =
      (crash_free_run k.rules Z (H ++ K) rest [], sym (ap (λ i. crash_free_run k.rules Z H i (entry_tolds K)) (sym taken) ∙ ap (λ t. crash_free_run k.rules Z H (entry_items K ++ rest) t) (sym (append-nil (entry_tolds K))) ∙ run_goes_on k.rules Z H K rest [] lawful))

  -- where nothing is pending and no item is left, nothing comes
  run_ended : (G : List (Entry I)) (tolds : List Told) → k.rules.pending Z G ≡ None → crash_free_run k.rules Z G [] tolds ≡ []
  run_ended G [] idle = refl
  run_ended G (told ∷ tolds) idle =
      let n : length {A = I} [] + length (told ∷ tolds) ≡ suc (length tolds) = omega arith in
      ap (λ k'. crash_free_turns k' k.rules Z G [] (told ∷ tolds)) n ∙ ap (λ p. crash_free_turn (crash_free_turns (length tolds) k.rules Z) p G [] (told ∷ tolds)) idle

  room_at : (G front : List (Entry I)) (next : Entry I) (rest : List (Entry I)) → HadRoom k.rules Z G (front ++ next ∷ rest) → IsTooMuch k.rules Z (G ++ front) next → ⊥
  room_at G [] next rest room none = room.0 (subst (λ g. IsTooMuch k.rules Z g next) (append-nil G) none)
  room_at G (e ∷ front) next rest room none = room_at (G ++ e ∷ []) front next rest room.1 (subst (λ g. IsTooMuch k.rules Z g next) (sym (append_assoc G (e ∷ []) front)) none)

  -- where all items are in the history and nothing is pending, no entry lacked room
  pub lacks_none : (items : List I) (K : List (Entry I)) → LawfulFrom k.rules Z H K → entry_items K ≡ items → HadRoom k.rules Z H K → k.rules.pending Z (H ++ K) ≡ None → (more : List Told) → LacksRoom k.rules Z H items (entry_tolds K ++ more) → ⊥
  lacks_none items K lawful taken room idle more lacks =
      let whole : crash_free_run k.rules Z H items (entry_tolds K ++ more) ≡ K =
      ap (λ i. crash_free_run k.rules Z H i (entry_tolds K ++ more)) (sym taken ∙ sym (append-nil (entry_items K)))
      ∙ run_goes_on k.rules Z H K [] more lawful ∙ ap (λ l. K ++ l) (run_ended (H ++ K) more idle) ∙ append-nil K in
      let is : lacks.entries ++ lacks.next ∷ lacks.is_prefix.0 ≡ K = sym (append_assoc lacks.entries (lacks.next ∷ []) lacks.is_prefix.0) ∙ lacks.is_prefix.1 ∙ whole in
      room_at H lacks.entries lacks.next lacks.is_prefix.0 (subst (HadRoom k.rules Z H) (sym is) room) lacks.too_much

  -- what comes next is on the run without a crash
  comes_first : (G : List (Entry I)) (items : List I) (e : Entry I) → ComesNext k.rules Z G items e → (more : List Told) × IsPrefixOf (e ∷ []) (crash_free_run k.rules Z G items more)
  comes_first G items (Item item) comes = ([], subst (λ l. IsPrefixOf (Item item ∷ []) (crash_free_run k.rules Z G l [])) (sym comes.2) (subst (λ l. IsPrefixOf l (crash_free_run k.rules Z G (item ∷ comes.1) [])) (run_item k.rules Z G item comes.0) (run_more k.rules Z G (item ∷ []) comes.1 [])))
  comes_first G items (Outcome told) comes = (told ∷ [], subst (λ l. IsPrefixOf l (crash_free_run k.rules Z G items (told ∷ []))) (run_outcome k.rules Z G comes.0 told comes.1) (run_more k.rules Z G [] items (told ∷ [])))

  -- so the run without a crash lacks room where the next entry does
  pub lacks_of : (items rest : List I) (K : List (Entry I)) → LawfulFrom k.rules Z H K → entry_items K ++ rest ≡ items → LacksNext k Z (H ++ K) rest → (tolds : List Told) × LacksRoom k.rules Z H items tolds
  lacks_of items rest K lawful taken lacks =
      let next = comes_first (H ++ K) rest lacks.next lacks.comes in
      let whole : crash_free_run k.rules Z H items (entry_tolds K ++ next.0) ≡ K ++ crash_free_run k.rules Z (H ++ K) rest next.0 =
      ap (λ i. crash_free_run k.rules Z H i (entry_tolds K ++ next.0)) (sym taken) ∙ run_goes_on k.rules Z H K rest next.0 lawful in (
        entry_tolds K ++ next.0,
        record {
          entries = K;
          next = lacks.next;
          is_prefix = (next.1.0, append_assoc K (lacks.next ∷ []) next.1.0 ∙ ap (λ l. K ++ l) next.1.1 ∙ sym whole);
          too_much = lacks.too_much;
        },
      )

  -- the file isn't opened, or the run ends before it answers of line 1
  pub answers_at_once : (text : List ℕ) (old new : Outside) (end : Ending) → MayEndAtOnce k Z H end → end ≢ Input → RunKeeps k.rules Z H (items_of_text k.scripts text H) old.board new.board → IsUntouched old.board new.board
      → Stands k.rules Z H old.board.octets → new.written ≡ old.written → RunAnswers k Z H text old new end []
  answers_at_once text old new end once not_input keeps same stands quiet = record {
    headline = keeps;
    stores = record {
      entries = [];
      rest = items_of_text k.scripts text H;
      taken = refl;
      is_run = (crash_free_run k.rules Z H (items_of_text k.scripts text H) [], refl);
      lawful = tt;
      room = tt;
      told = λ not. ap tolds_of same.sent ∙ sym (append-nil (tolds_of old.board.sent));
      stands = λ not. subst (λ G. Stands k.rules Z G new.board.octets) (sym (append-nil H)) (subst (Stands k.rules Z H) (sym same.octets) stands);
      lasting = λ not. inl same;
      torn = λ disk. inl (refl, same);
      all = λ of_text. absurd (not_of_text end once of_text);
      said = [];
      written = λ before is. quiet ∙ is ∙ ap Some (sym (append-nil before));
      whole = λ not. refl;
      cut = λ e. absurd (subst (MayEndAtOnce k Z H) e once);
      full = λ e. inr (subst (MayEndAtOnce k Z H) e once);
    };
    idle = λ read. absurd (not_read_out end once read);
    done = λ count e. absurd (subst (MayEndAtOnce k Z H) e once);
    bad = λ number e. absurd (subst (MayEndAtOnce k Z H) e once);
    other = λ id count e. absurd (subst (MayEndAtOnce k Z H) e once);
    is_other = λ o. inl once;
    headless = λ none. inl once;
    untouched = λ why. same;
    formatted = λ e. subst (MayEndAtOnce k Z H) e once;
    is_full = λ some not more lacks. is_failure end once;
    far = λ count e. absurd (subst (MayEndAtOnce k Z H) e once);
    not_far = λ e. absurd (not_input e);
    other_far = λ id count e. absurd (subst (MayEndAtOnce k Z H) e once);
    other_not_far = λ o e. absurd (not_input e);
  }
    where
      not_of_text : (end : Ending) → MayEndAtOnce k Z H end → IsOfText end → ⊥
      not_of_text (Done count) once of_text = once
      not_of_text (Line number) once of_text = once
      not_of_text (Unfinished id count) once of_text = once
      not_of_text other once of_text = of_text

      not_read_out : (end : Ending) → MayEndAtOnce k Z H end → IsReadOut end → ⊥
      not_read_out (Done count) once of_text = once
      not_read_out (Line number) once of_text = once
      not_read_out other once of_text = of_text

      is_failure : (end : Ending) → MayEndAtOnce k Z H end → IsFailure end
      is_failure Input once = tt
      is_failure Disk once = tt
      is_failure Full once = tt
      is_failure Memory once = tt
      is_failure Output once = absurd once
      is_failure (Done count) once = absurd once
      is_failure (Line number) once = absurd once
      is_failure (Unfinished id count) once = absurd once
      is_failure other once = absurd once

-- what a script answered that ends so
abbrev answer_of : Ending → Result ℕ ScriptStop
answer_of (Done count) = Ok count
answer_of (Line number) = Err (script.Lines (line.Line number))
answer_of (Unfinished id count) = Err (script.Unfinished id count)
answer_of Input = Err (script.Lines line.Input)
answer_of Disk = Err (script.Lines (line.Step step.Disk))
answer_of Output = Err (script.Lines (line.Step step.Output))
answer_of Full = Err (script.Lines (line.Step step.Full))
answer_of Memory = Err (script.Lines (line.Step step.Memory))
answer_of other = Ok 0

answer_is : (result : Result ℕ ScriptStop) → result ≡ answer_of (script_ending result)
answer_is (Ok count) = refl
answer_is (Err (script.Unfinished id count)) = refl
answer_is (Err (script.Lines (line.Line number))) = refl
answer_is (Err (script.Lines line.Input)) = refl
answer_is (Err (script.Lines (line.Step step.Disk))) = refl
answer_is (Err (script.Lines (line.Step step.Output))) = refl
answer_is (Err (script.Lines (line.Step step.Full))) = refl
answer_is (Err (script.Lines (line.Step step.Memory))) = refl

step_is : (stop : StepStop) → answer_of (step_ending stop) ≡ Err (script.Lines (line.Step stop))
step_is step.Disk = refl
step_is step.Output = refl
step_is step.Full = refl
step_is step.Memory = refl

-- how the script ended, and the step that stopped it
pub to_stop : (result : Result ℕ ScriptStop) (stop : StepStop) → script_ending result ≡ step_ending stop → script_step result ≡ Some stop
to_stop result stop e = ap script_step (answer_is result ∙ ap answer_of e ∙ step_is stop)

pub to_end : (result : Result ℕ ScriptStop) (stop : StepStop) → script_step result ≡ Some stop → script_ending result ≡ step_ending stop
to_end (Ok count) stop e = absurd (cc e)
to_end (Err (script.Unfinished id count)) stop e = absurd (cc e)
to_end (Err (script.Lines (line.Line number))) stop e = absurd (cc e)
to_end (Err (script.Lines line.Input)) stop e = absurd (cc e)
to_end (Err (script.Lines (line.Step s))) stop e = ap step_ending (some_is e)

pub answer : (result : Result ℕ ScriptStop) (end : Ending) → script_ending result ≡ end → result ≡ answer_of end
answer result end e = answer_is result ∙ ap answer_of e

pub formatted_of : (result : Result ℕ ScriptStop) → script_ending result ≡ Unformatted → ⊥
formatted_of (Ok n) e = cc e
formatted_of (Err (script.Unfinished i c)) e = cc e
formatted_of (Err (script.Lines (line.Line n))) e = cc e
formatted_of (Err (script.Lines line.Input)) e = cc e
formatted_of (Err (script.Lines (line.Step step.Disk))) e = cc e
formatted_of (Err (script.Lines (line.Step step.Output))) e = cc e
formatted_of (Err (script.Lines (line.Step step.Full))) e = cc e
formatted_of (Err (script.Lines (line.Step step.Memory))) e = cc e

-- a script whose text was read out is no other one
read_out : (its : Option Script) (result : Result ℕ ScriptStop) → IsReadOut (script_ending result) → IsUnread result ⊎ NamesOther its result → ⊥
read_out s result read (inl e) = subst (λ r. IsReadOut (script_ending r)) e read
read_out None result read (inr e) = e
read_out (Some s) result read (inr e) = subst (λ r. IsReadOut (script_ending r)) e read

-- a script that is named is the other one
named : (its : Option Script) (result : Result ℕ ScriptStop) → IsUnread result ⊎ NamesOther its result → (id count : ℕ) → result ≡ Err (script.Unfinished id count) → IfSome its (λ s. (s.id ≡ id) × (s.count ≡ count))
named s result (inl e) id count is = absurd (let clash : Err (script.Unfinished id count) ≡ Err (script.Lines line.Input) = sym is ∙ e in cc clash)
named None result (inr e) id count is = absurd e
named (Some s) result (inr e) id count is = let same : Err (script.Unfinished s.id s.count) ≡ Err (script.Unfinished id count) = sym e ∙ is in (cc same, cc same)

ends_other : {I M : Type 0} (k : Kind I M) (Z : List ℕ) (H : List (Entry I)) (its : Option Script) (result : Result ℕ ScriptStop) → IsUnread result ⊎ NamesOther its result
    → MayEndAtOnce k Z H (script_ending result) ⊎ ((id : ℕ) × (count : ℕ) × (script_ending result ≡ Unfinished id count))
ends_other k Z H s result (inl e) = inl (subst (λ r. MayEndAtOnce k Z H (script_ending r)) (sym e) tt)
ends_other k Z H None result (inr e) = absurd e
ends_other k Z H (Some s) result (inr e) = inr (s.id, s.count, ap script_ending e)

none_of_other : {I M : Type 0} (k : Kind I M) (its : Option Script) (said : Option (Said I)) → IsOther its said → items_after k.scripts its said ≡ []
none_of_other k None said other = absurd other
none_of_other k (Some s) None other = absurd other
none_of_other k (Some s) (Some said) other = rw other.0 (rw other.1 refl)

-- what the text gives beside what was gone through
record Rest {I : Type 0} (so_far items : List I) (result : Result ℕ ScriptStop) : Type 0 where
  more : List I
  split : so_far ++ more ≡ items
  none : IsOfText (script_ending result) → more ≡ []

abbrev unwiden : Result ℕ ScriptStop → Result ℕ LineStop
unwiden (Ok n) = Ok n
unwiden (Err (script.Lines stop)) = Err stop
unwiden (Err (script.Unfinished id count)) = Ok 0

unwiden_is : (lines : Result ℕ LineStop) → lines ≡ unwiden (widen lines)
unwiden_is (Ok n) = refl
unwiden_is (Err stop) = refl

lines_are : (lines : Result ℕ LineStop) (result : Result ℕ ScriptStop) (end : Ending) → result ≡ widen lines → script_ending result ≡ end → lines ≡ unwiden (answer_of end)
lines_are lines result end is e = unwiden_is lines ∙ ap unwiden (sym is ∙ answer result end e)

of_text_read : (lines : Result ℕ LineStop) → IsOfText (script_ending (widen lines)) → IsRead lines
of_text_read (Ok n) t = tt
of_text_read (Err (line.Line n)) t = tt
of_text_read (Err line.Input) t = t
of_text_read (Err (line.Step step.Disk)) t = t
of_text_read (Err (line.Step step.Output)) t = t
of_text_read (Err (line.Step step.Full)) t = t
of_text_read (Err (line.Step step.Memory)) t = t

read_of_text : (end : Ending) → IsReadOut end → IsOfText end
read_of_text (Done count) read = tt
read_of_text (Line number) read = tt
read_of_text other read = absurd read

no_step : (result : Result ℕ ScriptStop) → IsOfText (script_ending result) → script_step result ≡ None
no_step (Ok n) of_text = refl
no_step (Err (script.Unfinished i c)) of_text = refl
no_step (Err (script.Lines (line.Line n))) of_text = refl
no_step (Err (script.Lines line.Input)) of_text = absurd of_text
no_step (Err (script.Lines (line.Step step.Disk))) of_text = absurd of_text
no_step (Err (script.Lines (line.Step step.Output))) of_text = absurd of_text
no_step (Err (script.Lines (line.Step step.Full))) of_text = absurd of_text
no_step (Err (script.Lines (line.Step step.Memory))) of_text = absurd of_text

is_failure : (result : Result ℕ ScriptStop) → (IsReadOut (script_ending result) → ⊥) → ((id count : ℕ) → result ≡ Err (script.Unfinished id count) → ⊥) → IsFailure (script_ending result)
is_failure (Ok n) read other = absurd (read tt)
is_failure (Err (script.Unfinished i c)) read other = absurd (other i c refl)
is_failure (Err (script.Lines (line.Line n))) read other = absurd (read tt)
is_failure (Err (script.Lines line.Input)) read other = tt
is_failure (Err (script.Lines (line.Step step.Disk))) read other = tt
is_failure (Err (script.Lines (line.Step step.Output))) read other = tt
is_failure (Err (script.Lines (line.Step step.Full))) read other = tt
is_failure (Err (script.Lines (line.Step step.Memory))) read other = tt

-- another script is unfinished, or it isn't
other_or : {I : Type 0} (its : Option Script) (said : Option (Said I)) → IsOther its said ⊎ (IsOther its said → ⊥)
other_or None said = inr (λ o. o)
other_or (Some s) None = inr (λ o. o)
other_or (Some s) (Some said) = by s.closed (is_same s said.id said.count)
  where
    by : (a b : Bool) → (IsFalse a × IsFalse b) ⊎ (IsFalse a × IsFalse b → ⊥)
    by false false = inl (refl, refl)
    by true b = inr (λ o. cc o.0)
    by false true = inr (λ o. cc o.1)

-- the run of a script behind the opening
module _ {I M : Type 0} (k : Kind I M) (Z : List ℕ) (H : List (Entry I)) (text : List ℕ) (old : Outside) (mid new : World I M) (to : Source) (so_far : List I) (result : Result ℕ ScriptStop) (w : Went k Z H mid new so_far (script_step result))
    (p : Played k mid new to (script_of k.scripts H) text so_far result) (sent : mid.board.sent ≡ old.board.sent) (wrote : mid.written ≡ old.written) where
  abbrev said : Option (Said I)
  said = text_says k.scripts text

  abbrev items : List I
  items = items_of_text k.scripts text H

  abbrev after : Outside
  after = outside new.board to.left to.faults new.written new.faults

  stores_of : Rest so_far items result → RunStores k Z H items old after (script_ending result) []
  stores_of r =
      let taken : entry_items w.entries ++ (w.rest ++ r.more) ≡ items = sym (append_assoc (entry_items w.entries) w.rest r.more) ∙ ap (λ i. i ++ r.more) w.taken ∙ r.split in
      let not_disk = λ (not : script_ending result ≢ Disk) (e : script_step result ≡ Some step.Disk). not (to_end result step.Disk e) in record {
        entries = w.entries;
        rest = w.rest ++ r.more;
        taken = taken;
        is_run = begins_run k Z H items (w.rest ++ r.more) w.entries w.lawful taken;
        lawful = w.lawful;
        room = w.room;
        told = λ not. (w.came (not_disk not)).told ∙ ap (λ s. tolds_of s ++ entry_tolds w.entries) sent;
        stands = λ not. subst (λ (l : List (List ℕ)). image.Stands k.rules.kind Z l new.board.octets) (append-nil (map k.rules.encode (H ++ w.entries))) (w.came (not_disk not)).holds.stored.at.stands;
        lasting = λ not. inr (images_stand _ _ _ new.board new.engine.journal (w.came (not_disk not)).holds.stored);
        torn = λ disk. inr (w.lost (to_stop result step.Disk disk));
        all = λ of_text. ap (λ l. l ++ r.more) (w.all (no_step result of_text)) ∙ r.none of_text;
        said = w.said;
        written = λ before is. w.written before (wrote ∙ is) ∙ ap (λ l. Some (before ++ l)) (sym (append-nil w.said));
        whole = λ not. w.whole (λ e. not (to_end result step.Output e));
        cut = λ e. w.cut (to_stop result step.Output e);
        full = λ e. inl (let f = w.full (to_stop result step.Full e) in record { next = f.next; comes = comes_more k Z (H ++ w.entries) w.rest r.more f.next f.comes; too_much = f.too_much });
      }

  rest_of_text : Rest so_far items result
  rest_of_text = ⊎_elim
      (λ o. let r = p.refused o in record { more = []; split = append-nil so_far ∙ r.0 ∙ sym (none_of_other k (script_of k.scripts H) said o); none = λ of_text. refl })
      (λ not. let g = p.ran not in record { more = g.2.more; split = g.2.split; none = λ of_text. g.2.read (of_text_read g.0 (subst (λ r. IsOfText (script_ending r)) g.1 of_text)) })
      (other_or (script_of k.scripts H) said)

  -- what a crash on the way leaves, of all that the text gives
  pub moments_all : LeavesOnly mid.board new.board (LeavesPrefix k.rules Z H mid.board.sent items)
  moments_all =
      let r = rest_of_text in
      subst (λ l. LeavesOnly mid.board new.board (LeavesPrefix k.rules Z H mid.board.sent l)) r.split
      (leaves_map mid.board new.board (LeavesPrefix k.rules Z H mid.board.sent so_far) (LeavesPrefix k.rules Z H mid.board.sent (so_far ++ r.more)) (λ left. more_items k Z H mid.board so_far r.more left) w.moments)

  all_taken : IsReadOut (script_ending result) → entry_items w.entries ≡ items
  all_taken read =
      let of_text = read_of_text (script_ending result) read in
      sym (append-nil (entry_items w.entries)) ∙ ap (λ l. entry_items w.entries ++ l) (sym (w.all (no_step result of_text))) ∙ w.taken ∙ sym (append-nil so_far)
      ∙ ap (λ l. so_far ++ l) (sym (rest_of_text.none of_text)) ∙ rest_of_text.split

  not_other : IsReadOut (script_ending result) → IsOther (script_of k.scripts H) said → ⊥
  not_other read o = read_out (script_of k.scripts H) result read (p.refused o).1

  pub answers_of : Agrees k.rules (k.view new.engine.machine) → RunKeeps k.rules Z H items old.board new.board → (IsOther (script_of k.scripts H) said ⊎ (said ≡ None) → IsUntouched old.board new.board) → length to.held ≤ 256 → RunAnswers k Z H text old after (script_ending result) []
  unfolding stores_of
  answers_of agrees keeps same held =
      let s = stores_of rest_of_text in record {
        headline = keeps;
        stores = s;
        idle = idle;
        done = λ count e.
            let read = subst IsReadOut (sym e) tt in
            let g = p.ran (not_other read) in
            let lines = lines_are g.0 result (Done count) g.1 e in (subst (LineAnswers (bad_line said)) lines g.2.answers, not_other read, subst (λ l. IfOk l (λ n. n ≡ length items)) lines g.2.number);
        bad = λ number e.
            let read = subst IsReadOut (sym e) tt in
            let g = p.ran (not_other read) in (subst (LineAnswers (bad_line said)) (lines_are g.0 result (Line number) g.1 e) g.2.answers, not_other read);
        other = λ id count e.
            let is = answer result (Unfinished id count) e in
            let o = p.other id count is in (o, named (script_of k.scripts H) result (p.refused o).1 id count is);
        is_other = λ o. ends_other k Z H (script_of k.scripts H) result (p.refused o).1;
        headless = λ none. ⊎_elim (λ e. inl (subst (λ r. MayEndAtOnce k Z H (script_ending r)) (sym e) tt)) (λ e. inr (ap script_ending e)) (p.headless none);
        untouched = same;
        formatted = formatted_of result;
        is_full = λ some not more lacks. is_failure result
            (λ read. lacks_none k Z H items w.entries w.lawful (all_taken read) w.room (idle read some) more lacks)
            (λ id count is. not (p.other id count is));
        far = λ count e.
            let read = subst IsReadOut (sym e) tt in
            let g = p.ran (not_other read) in
            let lines = lines_are g.0 result (Done count) g.1 e in
            let good : bad_line said ≡ None = subst (LineAnswers (bad_line said)) lines g.2.answers in
            let here = subst (λ b. Unread to (behind_lines (up_to b (lines_in said)) text)) good (subst (HasRead (lines_read said) text to) lines g.3) in record { left = here.rest; unread = here.unread; beyond = to.held; behind = here.whole; few = held };
        not_far = λ e. p.unread (answer result Input e);
        other_far = λ id count e. let here = p.other_read id count (answer result (Unfinished id count) e) in record { left = here.rest; unread = here.unread; beyond = to.held; behind = here.whole; few = held };
        other_not_far = λ o e. p.other_unread o (answer result Input e);
      }
    where
      idle : IsReadOut (script_ending result) → IsSome said → k.rules.pending Z (H ++ w.entries) ≡ None
      idle read some =
          let g = p.ran (not_other read) in
          let of_text = read_of_text (script_ending result) read in
          let due = g.4 some (of_text_read g.0 (subst (λ r. IsOfText (script_ending r)) g.1 of_text)) in
          let holds = (w.came (λ e. let clash : None ≡ Some step.Disk = sym (no_step result of_text) ∙ e in cc clash)).holds in
          sym (agrees.due Z (H ++ w.entries) holds.lawful holds.shows) ∙ due
