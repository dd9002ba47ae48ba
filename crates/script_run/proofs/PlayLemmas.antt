-- A whole script.
use Rattle.std.proofs.Common.{◌≡◌, inl, inr, ℕ, suc, ◌+◌, ◌<◌, ◌≤◌, List, [], ◌∷◌, ◌++◌, length, Option, Some, None, refl, sym, ◌∙◌, ap, subst, arith, append_assoc, Result, Ok, Err, false, ◌&&◌, nat_eq, nat_le, if◌then◌else◌}
use Rattle.std.specs.Prelude.{IsErrOf, IsSome, IsSomeAnd, IfOk, IsTrue}
use Rattle.std.proofs.lemmas.Bool.Decides.{nat_tests}
use Rattle.pef_engine.specs.declared.entry.Entry.{Entry}
use Rattle.pef_engine.specs.declared.script.Script.{Script}
use Rattle.pef_engine.specs.declared.script.ScriptStep.TheVariants.{Opens}
use Rattle.pef_engine.specs.Rules.{Rules, Lawful}
use Rattle.pef_engine.specs.MachineView.{MachineView}
use Rattle.pef_engine.specs.Scripts.{ScriptRules, IsScripted, MayCome, Awaits, IsWithin, script_with, script_of}
use Rattle.script_text.specs.Lines.{lines_of, behind_line, behind_lines}
use Rattle.script_text.specs.Reading.{HasLeft, FailsWithin}
use Rattle.script_text.specs.Forms.{words_of}
use Rattle.script_text.specs.Script.{Said, Given, given, said_of, said_of_lines, said_by, head_of, head_of_words, bad_line}
use Rattle.script_text.specs.declared.head.Head.{Head}
use Rattle.script_run.specs.declared.stop.StepStop.{StepStop}
use Rattle.script_run.specs.declared.stop.LineStop.{LineStop}
use Rattle.script_run.specs.declared.stop.LineStop.TheVariants.{Step, Line, Input as InputFailed}
use Rattle.script_run.specs.declared.stop.ScriptStop.{ScriptStop}
use Rattle.script_run.specs.declared.stop.ScriptStop.TheVariants.{Lines, Unfinished}
use Rattle.script_run.specs.declared.course.Course.{Course}
use Rattle.script_run.specs.declared.course.Course.TheVariants.{Over, GoesOn, Begins}
use Rattle.script_run.specs.Items.{IsOther, items_after, rest_of, text_says}
use Rattle.script_run.specs.Going.{Kind, World, Goes, Moved}
use Rattle.script_run.specs.Lines.{Input, input, Unread, step_in, Answers, Reads, HasRead, up_to, up_to_behind, lines_read, FailsBefore, Ran, IsReadyFor, GivesHead}
use Rattle.script_run.specs.Course.{IsCourse, IsAnother, GivesCourse, TakesCourse, items_on}
use Rattle.script_run.specs.Playing.{widen, script_step, IsUnread, NamesOther, Plays}
use Rattle.script_run.proofs.GoingLemmas.{goes_then}
use Rattle.script_run.proofs.LineLemmas.{front_line, ends-append, bad_later}
use Rattle.script_run.proofs.ScriptsLemmas.{script_behind, lawful_within}

-- what line 1 says
pub head_says : {I : Type 0} (word : List ℕ) (item_of : List ℕ → Option I) (text line : List ℕ) (behind : List (List ℕ)) (o : Option Head) → lines_of text ≡ line ∷ behind → head_of word line ≡ o → said_of word item_of text ≡ said_by item_of o behind
head_says word item_of text line behind o lines is = ap (said_of_lines word item_of) lines ∙ ap (λ h. said_by item_of h behind) is

pub long_head : (word line : List ℕ) → 1200 < length line → head_of word line ≡ None
long_head word line long = let test : nat_le (length line) 1200 ≡ false = grind (arith, nat_tests) in ap (λ b. if b then head_of_words word (words_of line) else None) test

module _ {I M : Type 0} (k : Kind I M) where
  -- a step stopped it among these items, and nothing was read
  pub ran_stops : {old new : World I M} {from : Input} {lines : ℕ} {all : List ℕ → List I} {bad : List ℕ → Option ℕ} {items : List I} (stop : StepStop) → Goes k old new items (Some stop) → length from.held ≤ 256
      → ((text : List ℕ) → Unread from text → (more : List I) × (items ++ more ≡ all text)) → Ran k old new from from lines all bad (Err (Step stop))
  ran_stops {items = items} stop goes held split = record {
    so_far = items;
    goes = goes;
    idle = λ read. absurd read;
    reads = record { later = omega arith; failed = λ e. absurd (cc e); same = λ not. refl; held = held };
    given = λ text unread. let s = split text unread in record { more = s.0; split = s.1; read = λ read. absurd {0} read; answers = tt; number = tt };
    far = λ text unread. tt;
  }

  -- behind settling the rest was run
  pub ran_settled : {old mid new : World I M} {from to : Input} {lines : ℕ} {all : List ℕ → List I} {bad : List ℕ → Option ℕ} (result : Result ℕ LineStop) → Goes k old mid [] None → Ran k mid new from to lines all bad result → Ran k old new from to lines all bad result
  ran_settled result goes r = record { so_far = r.so_far; goes = goes_then k goes r.goes; idle = r.idle; reads = r.reads; given = r.given; far = r.far }

  -- behind one item the rest was run, and stopped
  pub ran_behind : {old mid new : World I M} {from to : Input} {lines : ℕ} {all : List ℕ → List I} {bad : List ℕ → Option ℕ} (item same : I) → item ≡ same → (stop : LineStop) → Goes k old mid (item ∷ []) None → Ran k mid new from to lines all bad (Err stop)
      → Ran k old new from to lines (λ text. same ∷ all text) bad (Err stop)
  ran_behind {all = all} item same is stop goes r = record {
    so_far = item ∷ r.so_far;
    goes = goes_then k goes r.goes;
    idle = r.idle;
    reads = r.reads;
    given = λ text unread. let g = r.given text unread in record { more = g.more; split = ap (λ l. item ∷ l) g.split ∙ ap (λ i. i ∷ all text) is; read = g.read; answers = g.answers; number = tt };
    far = r.far;
  }

  -- and came to its end
  pub ran_all : {old mid new : World I M} {from to : Input} {lines : ℕ} {all : List ℕ → List I} {bad : List ℕ → Option ℕ} (item same : I) → item ≡ same → (n : ℕ) → Goes k old mid (item ∷ []) None → Ran k mid new from to lines all bad (Ok n)
      → Ran k old new from to lines (λ text. same ∷ all text) bad (Ok (n + 1))
  ran_all {all = all} item same is n goes r = record {
    so_far = item ∷ r.so_far;
    goes = goes_then k goes r.goes;
    idle = r.idle;
    reads = record { later = r.reads.later; failed = λ e. absurd (cc e); same = λ not. r.reads.same (λ e. cc e); held = r.reads.held };
    given = λ text unread. let g = r.given text unread in record { more = g.more; split = ap (λ l. item ∷ l) g.split ∙ ap (λ i. i ∷ all text) is; read = g.read; answers = g.answers; number = omega (arith, g.number) };
    far = r.far;
  }

  -- the course by another name
  pub ran_on : {old new : World I M} {from to : Input} {lines : ℕ} {bad : List ℕ → Option ℕ} {result : Result ℕ LineStop} (id count : ℕ) (course other : Course) → course ≡ other
      → Ran k old new from to lines (λ text. items_on k.scripts id count (given k.scripts.item_of (lines_of text) count 2) other) bad result → Ran k old new from to lines (λ text. items_on k.scripts id count (given k.scripts.item_of (lines_of text) count 2) course) bad result
  ran_on {old} {new} {from} {to} {lines} {bad} {result} id count course other is r =
      subst (λ c. Ran k old new from to lines (λ text. items_on k.scripts id count (given k.scripts.item_of (lines_of text) count 2) c) bad result) (sym is) r

  no_steps : (result : Result ℕ LineStop) → ((stop : StepStop) → IsErrOf result (Step stop) → ⊥) → step_in result ≡ None
  no_steps (Ok n) none = refl
  no_steps (Err (Step stop)) none = absurd (none stop refl)
  no_steps (Err (Line number)) none = refl
  no_steps (Err InputFailed) none = refl

  -- the lines of a closed script were read
  pub ran_over : {old new : World I M} {from to : Input} {lines : ℕ} {bad : List ℕ → Option ℕ} (result : Result ℕ LineStop) → Goes k old new [] None → (k.view new.engine.machine).due ≡ None → Reads from to result
      → ((text : List ℕ) → Unread from text → Answers (bad text) result) → ((text : List ℕ) → Unread from text → HasRead (up_to_behind (bad text) lines) text to result) → ((stop : StepStop) → IsErrOf result (Step stop) → ⊥) → IfOk result (λ n. n ≡ 0)
      → Ran k old new from to lines (λ text. []) bad result
  ran_over {old} {new} result goes due reads answers far none number = record {
    so_far = [];
    goes = subst (Goes k old new []) (sym (no_steps result none)) goes;
    idle = λ read. due;
    reads = reads;
    given = λ text unread. record { more = []; split = refl; read = λ read. refl; answers = answers text unread; number = number };
    far = far;
  }

module _ {I : Type 0} (rules : Rules I) (scripts : ScriptRules I) (scripted : IsScripted rules scripts) (old new : MachineView I) (id count : ℕ) where
  -- settling leaves the course as it is
  pub course_keeps : (course : Course) → TakesCourse rules scripts old id count course → ((Z : List ℕ) (H : List (Entry I)) → Lawful rules Z H → old.shows Z H → Moved rules new Z H []) → TakesCourse rules scripts new id count course
  course_keeps course takes moves =
      let m = moves takes.settings takes.history takes.lawful takes.shows in record {
        settings = takes.settings;
        history = takes.history ++ m.entries;
        lawful = m.lawful;
        shows = m.shows;
        stands = subst (λ s. IsCourse s id count course) (sym (script_behind scripts takes.history m.entries [] m.taken)) takes.stands;
      }

  -- an opening may come
  pub may_open : (script : Option Script) → IsCourse script id count Begins → count ≤ 1000000 → MayCome script (Opens id count)
  may_open None course few = (tt, few)
  may_open (Some s) course few = (course.0, few)

  -- and behind it all items are awaited
  pub ready_opened : (item : I) → item ≡ scripts.opening id count → (Z : List ℕ) (H : List (Entry I)) → Moved rules new Z H (item ∷ []) → new.due ≡ None → IsReadyFor rules scripts new count 0
  ready_opened item is Z H m idle = record {
    settings = Z;
    history = H ++ m.entries;
    lawful = m.lawful;
    shows = m.shows;
    idle = idle;
    awaits = subst (λ s. Awaits s count 0) (sym (script_behind scripts H m.entries (item ∷ []) m.taken ∙ ap (script_with (script_of scripts H)) (ap scripts.step is ∙ scripted.opens id count))) (refl, refl, refl);
  }

is_that : (a b c d : ℕ) → IsTrue (nat_eq a b && nat_eq c d) → (a ≡ b) × (c ≡ d)
is_that a b c d same = grind (arith, nat_tests)

module _ {I : Type 0} (rules : Rules I) (scripts : ScriptRules I) (view : MachineView I) (id count taken : ℕ) where
  -- an unfinished script goes on behind the items that were taken
  pub ready_on : TakesCourse rules scripts view id count (GoesOn taken) → view.due ≡ None → IsReadyFor rules scripts view count taken
  ready_on takes idle = record { settings = takes.settings; history = takes.history; lawful = takes.lawful; shows = takes.shows; idle = idle; awaits = by (script_of scripts takes.history) takes.stands }
    where
      by : (script : Option Script) → IsCourse script id count (GoesOn taken) → Awaits script count taken
      by None stands = absurd stands
      by (Some s) stands = (stands.0, (is_that s.id id s.count count stands.1).1, stands.2)

  pub taken_few : IsScripted rules scripts → TakesCourse rules scripts view id count (GoesOn taken) → taken ≤ count
  taken_few scripted takes = by (script_of scripts takes.history) takes.stands (lawful_within rules scripts scripted takes.settings takes.history takes.lawful)
    where
      by : (script : Option Script) → IsCourse script id count (GoesOn taken) → IsWithin script → taken ≤ count
      by None stands within = absurd stands
      by (Some s) stands within = omega (arith, (is_that s.id id s.count count stands.1).1, stands.2, within.0)

-- a read that failed behind the first line
fails_behind : (lines : ℕ) (text : List ℕ) (source : Option (List ℕ)) → FailsBefore lines (behind_line text) source → FailsBefore (suc lines) text source
fails_behind lines text source f =
    let first = front_line text in record {
      left = f.left;
      unread = f.unread;
      front = first.0 ++ f.front;
      whole = first.1 ∙ ap (λ l. first.0 ++ l) f.whole ∙ sym (append_assoc first.0 f.front f.left);
      few = omega (arith, ends-append first.0 f.front, first.2, f.few);
    }

-- the same lines, counted with the first
with_first : (bad : Option ℕ) (count : ℕ) → ((n : ℕ) → bad ≡ Some n → 2 ≤ n) → suc (up_to_behind bad (count + 1)) ≡ up_to bad (count + 2)
with_first None count later = omega arith
with_first (Some n) count later = let two = later n refl in omega (arith, two)

far_behind : (lines : ℕ) (text : List ℕ) (to : Input) (result : Result ℕ LineStop) → HasRead lines (behind_line text) to result → HasRead (suc lines) text to result
far_behind lines text to (Ok n) far = far
far_behind lines text to (Err InputFailed) far = fails_behind lines text to.left far
far_behind lines text to (Err (Line number)) far = tt
far_behind lines text to (Err (Step stop)) far = tt

failed_far : (lines : ℕ) (text : List ℕ) (to : Input) (result : Result ℕ LineStop) → result ≡ Err InputFailed → HasRead lines text to result → FailsBefore lines text to.left
failed_far lines text to result is far = subst (HasRead lines text to) is far

fails_first : (lines : ℕ) (text : List ℕ) (source : Option (List ℕ)) → 0 < lines → FailsWithin text source → FailsBefore lines text source
fails_first lines text source some f = record { left = f.left; unread = f.unread; front = f.front; whole = f.whole; few = omega (arith, f.no_end, some) }

some_up_to : (bad : Option ℕ) (lines : ℕ) → ((n : ℕ) → bad ≡ Some n → 2 ≤ n) → 0 < lines → 0 < up_to bad lines
some_up_to None lines later some = some
some_up_to (Some n) lines later some = let two = later n refl in omega (arith, two)

some_behind : {I : Type 0} (item_of : List ℕ → Option I) (head : Option Head) (lines : List (List ℕ)) → 0 < lines_read (said_by item_of head lines)
some_behind item_of None lines = omega arith
some_behind item_of (Some head) lines = some_up_to (given item_of lines head.count 2).bad (head.count + 2) (bad_later item_of lines head.count 2) (omega arith)

-- line 1 is read
some_lines : {I : Type 0} (word : List ℕ) (item_of : List ℕ → Option I) (lines : List (List ℕ)) → 0 < lines_read (said_of_lines word item_of lines)
some_lines word item_of [] = omega arith
some_lines word item_of (line ∷ lines) = some_behind item_of (head_of word line) lines

-- the items that are still to come are those of the course
items_are : {I : Type 0} (scripts : ScriptRules I) (script : Option Script) (id count : ℕ) (g : Given I) (course : Course) → IsCourse script id count course → items_after scripts script (Some (record { id = id; count = count; given = g })) ≡ items_on scripts id count g course
items_are scripts None id count g Begins course = refl
items_are scripts None id count g Over course = absurd course
items_are scripts None id count g (GoesOn taken) course = absurd course
items_are scripts (Some s) id count g Begins course = rw course.0 (rw course.1 refl)
items_are scripts (Some s) id count g Over course = rw course.0 (rw course.1 refl)
items_are scripts (Some s) id count g (GoesOn taken) course = rw course.0 (rw course.1 (ap (λ n. rest_of scripts n g) course.2))

no_other : {I : Type 0} (script : Option Script) (id count : ℕ) (g : Given I) (course : Course) → IsCourse script id count course → IsOther script (Some (record { id = id; count = count; given = g })) → ⊥
no_other None id count g course is other = other
no_other (Some s) id count g Begins is other = cc (is.0, other.0)
no_other (Some s) id count g Over is other = cc (is.0, other.0)
no_other (Some s) id count g (GoesOn taken) is other = cc (is.1, other.1)

no_other_none : (I : Type 0) (script : Option Script) → IsOther {I = I} script None → ⊥
no_other_none I None other = other
no_other_none I (Some s) other = other

none_some : {A : Type 0} (o : Option A) → o ≡ None → IsSome o → ⊥
none_some None e some = cc some
none_some (Some x) e some = cc e

names_other : (s : Option Script) (id count : ℕ) → IsSomeAnd s (λ x. (x.id ≡ id) × (x.count ≡ count)) → NamesOther s (Err (Unfinished id count))
names_other None id count is = is
names_other (Some x) id count is = rw (is.0, is.1) refl

other_is : {I : Type 0} (script : Option Script) (id count their_id their_count : ℕ) (g : Given I) → IsAnother script id count their_id their_count
    → IsOther script (Some (record { id = id; count = count; given = g })) × IsSomeAnd script (λ s. (s.id ≡ their_id) × (s.count ≡ their_count))
other_is None id count their_id their_count g another = absurd another
other_is (Some s) id count their_id their_count g another = ((another.0, another.1), (another.2, another.3))

module _ {I M : Type 0} (k : Kind I M) where
  -- line 1 stopped it
  pub plays_first : {w : World I M} {from : Input} (to : Input) (stop : LineStop) → ((text : List ℕ) → Unread from text → GivesHead k.scripts text to (Err stop)) → Reads {A = Head} from to (Err stop) → ((step : StepStop) → stop ≡ Step step → ⊥)
      → Goes k w w [] None → Plays k w w from to (Err (Lines stop))
  plays_first to (Line number) head reads no_step goes = record {
    so_far = [];
    goes = goes;
    later = reads.later;
    failed = λ e. absurd (cc e);
    same = λ not. reads.same (λ e. cc e);
    held = reads.held;
    played = λ Z H lawful shows text unread.
        let h = head text unread in
        let script = script_of k.scripts H in
        let none_other : IsOther script (text_says k.scripts text) → ⊥ = λ other. no_other_none I script (subst (IsOther script) h.1 other) in record {
          refused = λ other. absurd (none_other other);
          other = λ id count e. absurd (cc e);
          other_read = λ id count e. absurd (cc e);
          other_unread = λ other. absurd (none_other other);
          unread = λ e. absurd (cc e);
          headless = λ none. inr (ap (λ n. Err (Lines (Line n))) h.0);
          ran = λ not. (
            Err (Line number),
            refl,
            record { more = []; split = sym (ap (items_after k.scripts script) h.1); read = λ read. refl; answers = ap bad_line h.1 ∙ ap Some (sym h.0); number = tt },
            tt,
            λ some read. absurd (none_some (text_says k.scripts text) h.1 some),
          );
        };
  }
  plays_first to InputFailed head reads no_step goes = record {
    so_far = [];
    goes = goes;
    later = reads.later;
    failed = λ e. reads.failed refl;
    same = λ not. absurd (not refl);
    held = reads.held;
    played = λ Z H lawful shows text unread. record {
      refused = λ other. (refl, inl refl);
      unread = λ e. fails_first (lines_read (text_says k.scripts text)) text to.left (some_lines k.scripts.word k.scripts.item_of (lines_of text)) (head text unread);
      other = λ id count e. absurd (cc e);
      other_read = λ id count e. absurd (cc e);
      other_unread = λ other e. fails_first 1 text to.left (omega arith) (head text unread);
      headless = λ none. inl refl;
      ran = λ not. (
        Err InputFailed,
        refl,
        record { more = items_after k.scripts (script_of k.scripts H) (text_says k.scripts text); split = refl; read = λ read. absurd {0} read; answers = tt; number = tt },
        fails_first (lines_read (text_says k.scripts text)) text to.left (some_lines k.scripts.word k.scripts.item_of (lines_of text)) (head text unread),
        λ some read. absurd read,
      );
    };
  }
  plays_first to (Step step) head reads no_step goes = absurd (no_step step refl)

  module _ {w : World I M} {from : Input} (mid : Input) (head : Head) (heads : (text : List ℕ) → Unread from text → GivesHead k.scripts text mid (Ok head)) (reads : Reads {A = Head} from mid (Ok head)) (script : Option Script)
      (opened : (Z : List ℕ) (H : List (Entry I)) → Lawful k.rules Z H → (k.view w.engine.machine).shows Z H → script ≡ script_of k.scripts H) where
    -- another script is unfinished
    pub plays_another : (stop : ScriptStop) → GivesCourse script head.id head.count (Err stop) → Goes k w w [] None → Plays k w w from mid (Err stop)
    plays_another (Unfinished id count) gives goes = record {
      so_far = [];
      goes = goes;
      later = reads.later;
      failed = λ e. absurd (cc e);
      same = λ not. reads.same (λ e. cc e);
      held = reads.held;
      played = λ Z H lawful shows text unread.
          let h = heads text unread in
          let s = script_of k.scripts H in
          let two = other_is s head.id head.count id count (given k.scripts.item_of (lines_of (behind_line text)) head.count 2) (subst (λ x. IsAnother x head.id head.count id count) (opened Z H lawful shows) gives) in
          let other : IsOther s (text_says k.scripts text) = subst (IsOther s) (sym h.1) two.0 in record {
            refused = λ o. (refl, inr (names_other s id count two.1));
            unread = λ e. absurd (cc e);
            other = λ i c e. other;
            other_read = λ i c e. h.0;
            other_unread = λ o e. absurd (cc e);
            headless = λ none. absurd (let clash : Some _ ≡ None = sym h.1 ∙ none in cc clash);
            ran = λ not. absurd (not other);
          };
    }
    plays_another (Lines stop) gives goes = absurd gives

    -- its lines were run
    pub plays_on : {new : World I M} (to : Input) (course : Course) (lines : Result ℕ LineStop) → IsCourse script head.id head.count course
        → Ran k w new mid to (head.count + 1) (λ text. items_on k.scripts head.id head.count (given k.scripts.item_of (lines_of text) head.count 2) course) (λ text. (given k.scripts.item_of (lines_of text) head.count 2).bad) lines
        → Plays k w new from to (widen lines)
    plays_on {new} to course lines is r = record {
      so_far = r.so_far;
      goes = subst (Goes k w new r.so_far) (same_step lines) r.goes;
      later = omega (arith, reads.later, r.reads.later);
      failed = λ e. omega (arith, reads.later, r.reads.failed (narrow lines e));
      same = λ not. r.reads.same (λ e. not (ap widen e)) ∙ reads.same (λ e. cc e);
      held = r.reads.held;
      played = λ Z H lawful shows text unread.
          let h = heads text unread in
          let s = script_of k.scripts H in
          let rest = behind_line text in
          let g = given k.scripts.item_of (lines_of rest) head.count 2 in
          let behind = up_to_behind g.bad (head.count + 1) in
          let lines_all = with_first g.bad head.count (bad_later k.scripts.item_of (lines_of rest) head.count 2) ∙ sym (ap lines_read h.1) in
          let takes : IsCourse s head.id head.count course = subst (λ x. IsCourse x head.id head.count course) (opened Z H lawful shows) is in
          let not_other : IsOther s (text_says k.scripts text) → ⊥ = λ o. no_other s head.id head.count g course takes (subst (IsOther s) h.1 o) in record {
            refused = λ o. absurd (not_other o);
            other = λ id count e. absurd (not_unfinished lines id count e);
            other_read = λ id count e. absurd (not_unfinished lines id count e);
            other_unread = λ o. absurd (not_other o);
            unread = λ e. subst (λ n. FailsBefore n text to.left) lines_all (failed_far (suc behind) text to lines (narrow lines e) (far_behind behind text to lines (r.far rest h.0)));
            headless = λ none. absurd (let clash : Some _ ≡ None = sym h.1 ∙ none in cc clash);
            ran = λ not. (
              lines,
              refl,
              let i = r.given rest h.0 in record {
                more = i.more;
                split = i.split ∙ sym (ap (items_after k.scripts s) h.1 ∙ items_are k.scripts s head.id head.count g course takes);
                read = i.read;
                answers = subst (λ b. Answers b lines) (sym (ap bad_line h.1)) i.answers;
                number = subst (λ l. IfOk lines (λ n. n ≡ length l)) (sym (ap (items_after k.scripts s) h.1 ∙ items_are k.scripts s head.id head.count g course takes)) i.number;
              },
              subst (λ n. HasRead n text to lines) lines_all (far_behind behind text to lines (r.far rest h.0)),
              λ some read. r.idle read,
            );
          };
    }
      where
        same_step : (lines : Result ℕ LineStop) → step_in lines ≡ script_step (widen lines)
        same_step (Ok n) = refl
        same_step (Err (Step stop)) = refl
        same_step (Err (Line number)) = refl
        same_step (Err InputFailed) = refl

        narrow : (lines : Result ℕ LineStop) → IsUnread (widen lines) → lines ≡ Err InputFailed
        narrow (Ok n) e = absurd (cc e)
        narrow (Err stop) e = cc e

        not_unfinished : (lines : Result ℕ LineStop) (id count : ℕ) → widen lines ≡ Err (Unfinished id count) → ⊥
        not_unfinished (Ok n) id count e = cc e
        not_unfinished (Err stop) id count e = cc e

-- a reader that holds nothing
pub starts : {I M : Type 0} {k : Kind I M} {old new : World I M} {to : Input} {result : Result ℕ ScriptStop} {held : List ℕ} (left : Option (List ℕ)) (faults : ℕ) → held ≡ [] → Plays k old new (input held left faults) to result → Plays k old new (input [] left faults) to result
starts {k = k} {old} {new} {to} {result} left faults is p = subst (λ h. Plays k old new (input h left faults) to result) is p

pub reader_left : (held : List ℕ) (source : Option (List ℕ)) (text : List ℕ) → held ≡ [] → source ≡ Some text → HasLeft held source text
reader_left held source text none left = record { rest = text; unread = left; whole = ap (λ h. h ++ text) (sym none) }

-- behind a head line 1 is one, and no other script is unfinished where its course is known
pub is_head : {A : Type 0} {o : Option A} {x : A} → o ≡ Some x → o ≡ None → ⊥
is_head is none = let clash : Some _ ≡ None = sym is ∙ none in cc clash

pub is_course : {I : Type 0} (scripts : ScriptRules I) (text : List ℕ) (its : Option Script) (head : Head) (g : Given I) (course : Course) → text_says scripts text ≡ Some (record { id = head.id; count = head.count; given = g }) → IsCourse its head.id head.count course
    → IsOther its (text_says scripts text) → ⊥
is_course scripts text its head g course says is other = no_other its head.id head.count g course is (subst (IsOther its) says other)
