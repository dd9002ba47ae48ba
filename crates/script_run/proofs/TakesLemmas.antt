-- The lines of a script, one line more.
use Rattle.std.proofs.Common.{◌≡◌, ◌⊎◌, ⊎_elim, ℕ, zero, suc, ◌+◌, ◌-◌, ◌<◌, List, [], ◌∷◌, ◌++◌, length, length-append, drop, Option, Some, None, refl, sym, ◌∙◌, ap, subst, arith, append_assoc, Result, Ok, Err}
use Rattle.std.proofs.lemmas.List.{append-nil}
use Rattle.script_text.specs.Lines.{lines_of, behind_line, behind_lines}
use Rattle.script_text.specs.Reading.{FailsWithin}
use Rattle.script_text.specs.Script.{Given, given, give_item}
use Rattle.pef_engine.specs.Scripts.{ScriptRules}
use Rattle.script_run.specs.declared.stop.StepStop.{StepStop}
use Rattle.script_run.specs.declared.stop.LineStop.{LineStop}
use Rattle.script_run.specs.declared.stop.LineStop.TheVariants.{Step, Line, Input as InputFailed}
use Rattle.script_run.specs.Items.{rest_of, closing_of}
use Rattle.script_run.specs.Going.{Kind, World, Goes}
use Rattle.script_run.specs.Lines.{Input, Unread, Reads, GivesItem, FailsBefore, Answers, HasRead, up_to_behind, Ran, Passes, Stands, Takes}
use Rattle.script_run.proofs.LineLemmas.{front_line, ends-append, bad_later}
use Rattle.script_run.proofs.GoingLemmas.{goes_then}

pub reads_ok : {A B : Type 0} {from at to : Input} {x : A} (result : Result B LineStop) → at.faults ≡ from.faults → Reads {A = A} at to (Ok x) → (result ≡ Err InputFailed → ⊥) → Reads from to result
reads_ok result same r not = record {
  later = omega (arith, same, r.later);
  failed = λ e. absurd (not e);
  same = λ n. r.same (λ e. cc e) ∙ same;
  held = r.held;
}

pub reads_err : {A B : Type 0} {from at to : Input} (stop : LineStop) → at.faults ≡ from.faults → Reads {A = A} at to (Err stop) → Reads {A = B} from to (Err stop)
reads_err stop same r = record {
  later = omega (arith, same, r.later);
  failed = λ e. omega (arith, same, r.failed (let is : stop ≡ InputFailed = cc e in ap Err is));
  same = λ not. r.same (λ e. not (let is : stop ≡ InputFailed = cc e in ap Err is)) ∙ same;
  held = r.held;
}

drop-nil : {A : Type 0} (n : ℕ) → drop {A = A} n [] ≡ []
drop-nil zero = refl
drop-nil (suc n) = refl

module _ {I : Type 0} (scripts : ScriptRules I) where
  rest_ended : (skip : ℕ) (bad : Option ℕ) → rest_of scripts skip (record { items = []; bad = bad }) ≡ closing_of scripts bad
  rest_ended skip bad = ap (λ l. l ++ closing_of scripts bad) (drop-nil skip)

  rest_skips : (skip : ℕ) (item : I) (given : Given I) → 0 < skip → rest_of scripts skip (give_item item given) ≡ rest_of scripts (skip - 1) given
  rest_skips zero item given some = absurd (omega (arith, some))
  rest_skips (suc skip) item given some = let e : skip ≡ suc skip - 1 = omega arith in ap (λ n. rest_of scripts n given) e

  rest_takes : (skip : ℕ) (item : I) (given : Given I) → skip ≡ 0 → rest_of scripts skip (give_item item given) ≡ item ∷ rest_of scripts skip given
  rest_takes skip item given none = ap (λ n. rest_of scripts n (give_item item given)) none ∙ ap (λ n. item ∷ rest_of scripts n given) (sym none)

  module _ (text : List ℕ) (count : ℕ) where
    pub passes_start : (at : Input) → Unread at text → Passes scripts text count at count 2
    passes_start at unread = record {
      rest = text;
      unread = unread;
      lines = 0;
      counted = omega arith;
      numbered = omega arith;
      behind = λ more. let e : more ≡ 0 + more = omega arith in ap (λ n. behind_lines n text) e;
      front = [];
      whole = refl;
      few = omega arith;
      bad = refl;
    }

    -- a line that gives an item was read
    pub passes_line : {at to : Input} {left number : ℕ} (item : I) (p : Passes scripts text count at left number) → GivesItem scripts.item_of p.rest left number to (Ok (Some item)) → 0 < left → Passes scripts text count to (left - 1) (number + 1)
    passes_line item p gives more =
        let f = front_line p.rest in record {
          rest = behind_line p.rest;
          unread = gives.0;
          lines = p.lines + 1;
          counted = omega (arith, p.counted, more);
          numbered = omega (arith, p.numbered);
          behind = λ n. let e : p.lines + suc n ≡ (p.lines + 1) + n = omega arith in p.behind (suc n) ∙ ap (λ m. behind_lines m text) e;
          front = p.front ++ f.0;
          whole = p.whole ∙ ap (λ l. p.front ++ l) f.1 ∙ sym (append_assoc p.front f.0 (behind_line p.rest));
          few = omega (arith, ends-append p.front f.0, p.few, f.2);
          bad = ap (λ (g : Given I). g.bad) (sym gives.1) ∙ p.bad;
        }

    abbrev bad_in : Option ℕ
    bad_in = (given scripts.item_of (lines_of text) count 2).bad

    -- lines are still to be read
    more_lines : {at : Input} {left number : ℕ} (p : Passes scripts text count at left number) (bad : Option ℕ) → (given scripts.item_of (lines_of p.rest) left number).bad ≡ bad → p.lines < up_to_behind bad (count + 1)
    more_lines p None is = omega (arith, p.counted)
    more_lines {left = left} {number = number} p (Some n) is = let later = bad_later scripts.item_of (lines_of p.rest) left number n is in omega (arith, p.numbered, later)

    -- a read failed
    pub passes_fail : {at : Input} {left number : ℕ} (p : Passes scripts text count at left number) (source : Option (List ℕ)) → FailsWithin p.rest source → FailsBefore (up_to_behind bad_in (count + 1)) text source
    passes_fail p source f = record {
      left = f.left;
      unread = f.unread;
      front = p.front ++ f.front;
      whole = p.whole ∙ ap (λ l. p.front ++ l) f.whole ∙ sym (append_assoc p.front f.front f.left);
      few = let more = more_lines p bad_in p.bad in omega (arith, ends-append p.front f.front, p.few, f.no_end, more);
    }

    -- a bad line, or a failed read, stops it
    pub passes_stop : {at : Input} {left number : ℕ} (p : Passes scripts text count at left number) (to : Input) (stop : LineStop) → GivesItem scripts.item_of p.rest left number to (Err stop) → Answers {A = Unit {0}} (given scripts.item_of (lines_of text) count 2).bad (Err stop)
    passes_stop p to (Line bad) gives = sym p.bad ∙ ap (λ (g : Given I). g.bad) gives.1 ∙ ap Some (sym gives.0)
    passes_stop p to InputFailed gives = tt
    passes_stop p to (Step stop) gives = tt

    pub passes_far : {at : Input} {left number : ℕ} (p : Passes scripts text count at left number) (to : Input) (stop : LineStop) → GivesItem scripts.item_of p.rest left number to (Err stop) → HasRead {A = Unit {0}} (up_to_behind bad_in (count + 1)) text to (Err stop)
    passes_far p to (Line bad) gives = tt
    passes_far p to InputFailed gives = passes_fail p to.left gives
    passes_far p to (Step stop) gives = tt

    -- the line `end` was read behind the last item
    pub passes_end : {at : Input} {left number : ℕ} (p : Passes scripts text count at left number) (to : Input) → Unread to (behind_line p.rest) → left ≡ 0 → bad_in ≡ None → Unread to (behind_lines (up_to_behind bad_in (count + 1)) text)
    passes_end p to unread none good = subst (λ b. Unread to (behind_lines (up_to_behind b (count + 1)) text)) (sym good) (let e : p.lines + 1 ≡ count + 1 = omega (arith, p.counted, none) in subst (Unread to) (p.behind 1 ∙ ap (λ n. behind_lines n text) e) unread)

  module _ (text : List ℕ) (count taken : ℕ) where
    stands_next : {at to : Input} {skip left number : ℕ} {so_far : List I} (skip' : ℕ) (so_far' : List I) (item : I) (s : Stands scripts text count taken at skip left number so_far)
        → GivesItem scripts.item_of s.passes.rest left number to (Ok (Some item)) → 0 < left → ((g : Given I) → so_far ++ rest_of scripts skip (give_item item g) ≡ so_far' ++ rest_of scripts skip' g)
        → Stands scripts text count taken to skip' (left - 1) (number + 1) so_far'
    unfolding passes_line
    stands_next {at} {to} {skip} {left} {number} {so_far} skip' so_far' item s gives more same = record {
      passes = passes_line text count item s.passes gives more;
      split = sym (same (given scripts.item_of (lines_of (behind_line s.passes.rest)) (left - 1) (number + 1))) ∙ ap (λ g. so_far ++ rest_of scripts skip g) (sym gives.1) ∙ s.split;
    }

    -- it was taken in an earlier run
    pub stands_skip : {at to : Input} {skip left number : ℕ} {so_far : List I} (item : I) (s : Stands scripts text count taken at skip left number so_far) → GivesItem scripts.item_of s.passes.rest left number to (Ok (Some item)) → 0 < left → 0 < skip
        → Stands scripts text count taken to (skip - 1) (left - 1) (number + 1) so_far
    stands_skip {skip = skip} {so_far = so_far} item s gives more skips = stands_next (skip - 1) so_far item s gives more (λ g. ap (λ l. so_far ++ l) (rest_skips skip item g skips))

    -- it is taken now
    pub stands_take : {at to : Input} {skip left number : ℕ} {so_far : List I} (item : I) (s : Stands scripts text count taken at skip left number so_far) → GivesItem scripts.item_of s.passes.rest left number to (Ok (Some item)) → 0 < left → skip ≡ 0
        → Stands scripts text count taken to skip (left - 1) (number + 1) (so_far ++ item ∷ [])
    stands_take {skip = skip} {so_far = so_far} item s gives more none =
        stands_next skip (so_far ++ item ∷ []) item s gives more (λ g. ap (λ l. so_far ++ l) (rest_takes skip item g none) ∙ sym (append_assoc so_far (item ∷ []) (rest_of scripts skip g)))

module _ {I M : Type 0} (k : Kind I M) (count taken : ℕ) where
  -- no line was read yet
  pub takes_start : {w : World I M} (from : Input) → Goes k w w [] None → Takes k w w from from count taken taken count 2 0
  unfolding passes_start
  takes_start from goes = record {
    so_far = [];
    goes = goes;
    same = refl;
    counted = refl;
    stands = λ text unread. record { passes = passes_start k.scripts text count from unread; split = refl };
  }

  -- all that the lines give, and the first bad one
  abbrev all : List ℕ → List I
  all text = rest_of k.scripts taken (given k.scripts.item_of (lines_of text) count 2)

  abbrev bad : List ℕ → Option ℕ
  bad text = (given k.scripts.item_of (lines_of text) count 2).bad

  -- the next line is bad, or can't be read
  pub stops_next : {old now : World I M} {from at : Input} {to : Input} (skip left number items : ℕ) (t : Takes k old now from at count taken skip left number items) (stop : LineStop)
      → ((text : List ℕ) → Unread at text → GivesItem k.scripts.item_of text left number to (Err stop)) → Reads {A = Option I} at to (Err stop) → (stop ≡ Line number) ⊎ (stop ≡ InputFailed) → (k.view now.engine.machine).due ≡ None
      → Ran k old now from to (count + 1) all bad (Err stop)
  stops_next skip left number items t (Line number') gives reads line idle = record {
    so_far = t.so_far;
    goes = t.goes;
    idle = λ read. idle;
    reads = reads_err (Line number') t.same reads;
    given = λ text unread.
        let s = t.stands text unread in
        let g = gives s.passes.rest s.passes.unread in record {
          more = [];
          split = ap (λ l. t.so_far ++ l) (sym (ap (rest_of k.scripts skip) g.1 ∙ rest_ended k.scripts skip (Some number))) ∙ s.split;
          read = λ read. refl;
          answers = sym s.passes.bad ∙ ap (λ (x : Given I). x.bad) g.1 ∙ ap Some (sym g.0);
          number = tt;
        };
    far = λ text unread. tt;
  }
  stops_next {to = to} skip left number items t InputFailed gives reads line idle = record {
    so_far = t.so_far;
    goes = t.goes;
    idle = λ read. absurd read;
    reads = reads_err InputFailed t.same reads;
    given = λ text unread.
        let s = t.stands text unread in record {
          more = rest_of k.scripts skip (given k.scripts.item_of (lines_of s.passes.rest) left number);
          split = s.split;
          read = λ read. absurd read;
          answers = tt;
          number = tt;
        };
    far = λ text unread. let s = t.stands text unread in passes_fail k.scripts text count s.passes to.left (gives s.passes.rest s.passes.unread);
  }
  stops_next skip left number items t (Step stop) gives reads line idle = absurd (⊎_elim (λ e. cc e) (λ e. cc e) line)

  module _ {old now : World I M} {from at : Input} (to : Input) (skip left number items : ℕ) (t : Takes k old now from at count taken skip left number items) (found : Option I) (reads : Reads {A = Option I} at to (Ok found))
      (gives : (text : List ℕ) → Unread at text → GivesItem k.scripts.item_of text left number to (Ok found)) where
    gives_as : {found' : Option I} → found ≡ found' → (text : List ℕ) → Unread at text → GivesItem k.scripts.item_of text left number to (Ok found')
    gives_as is text unread = subst (λ x. GivesItem k.scripts.item_of text left number to (Ok x)) is (gives text unread)

    -- it is the end, and there comes the closing item
    ends_all : (closing : I) → closing ≡ k.scripts.closing → found ≡ None → (text : List ℕ) → Unread from text → t.so_far ++ closing ∷ [] ≡ all text
    ends_all closing is none text unread =
        let s = t.stands text unread in
        ap (λ x. t.so_far ++ x ∷ []) is ∙ ap (λ l. t.so_far ++ l) (sym (ap (rest_of k.scripts skip) (gives_as none s.passes.rest s.passes.unread).1 ∙ rest_ended k.scripts skip None)) ∙ s.split

    -- it isn't taken
    pub close_stops : {new : World I M} (closing : I) → closing ≡ k.scripts.closing → found ≡ None → (stop : StepStop) → Goes k now new (closing ∷ []) (Some stop) → Ran k old new from to (count + 1) all bad (Err (Step stop))
    close_stops closing is none stop goes = record {
      so_far = t.so_far ++ closing ∷ [];
      goes = goes_then k t.goes goes;
      idle = λ read. absurd read;
      reads = reads_ok (Err (Step stop)) t.same reads (λ e. cc e);
      given = λ text unread. record { more = []; split = append-nil (t.so_far ++ closing ∷ []) ∙ ends_all closing is none text unread; read = λ read. absurd read; answers = tt; number = tt };
      far = λ text unread. tt;
    }

    -- it is taken
    pub closes : {new : World I M} (closing : I) → closing ≡ k.scripts.closing → found ≡ None → left ≡ 0 → Goes k now new (closing ∷ []) None → (k.view new.engine.machine).due ≡ None → Ran k old new from to (count + 1) all bad (Ok (items + 1))
    closes closing is none ended goes idle = record {
      so_far = t.so_far ++ closing ∷ [];
      goes = goes_then k t.goes goes;
      idle = λ read. idle;
      reads = reads_ok (Ok (items + 1)) t.same reads (λ e. cc e);
      given = λ text unread.
          let s = t.stands text unread in record {
            more = [];
            split = append-nil (t.so_far ++ closing ∷ []) ∙ ends_all closing is none text unread;
            read = λ read. refl;
            answers = sym s.passes.bad ∙ ap (λ (x : Given I). x.bad) (gives_as none s.passes.rest s.passes.unread).1;
            number = omega (arith, t.counted, length-append t.so_far (closing ∷ []), ap length (ends_all closing is none text unread));
          };
      far = λ text unread. let s = t.stands text unread in passes_end k.scripts text count s.passes to (gives_as none s.passes.rest s.passes.unread).0 ended
          (sym s.passes.bad ∙ ap (λ (x : Given I). x.bad) (gives_as none s.passes.rest s.passes.unread).1);
    }

    -- an item is passed over
    pub takes_skip : (item : I) → found ≡ Some item → 0 < left → 0 < skip → Takes k old now from to count taken (skip - 1) (left - 1) (number + 1) items
    takes_skip item is more skips = record {
      so_far = t.so_far;
      goes = t.goes;
      same = reads.same (λ e. cc e) ∙ t.same;
      counted = t.counted;
      stands = λ text unread. let s = t.stands text unread in stands_skip k.scripts text count taken item s (gives_as is s.passes.rest s.passes.unread) more skips;
    }

    -- an item is taken
    pub takes_item : {new : World I M} (item : I) → found ≡ Some item → 0 < left → skip ≡ 0 → Goes k now new (item ∷ []) None → Takes k old new from to count taken skip (left - 1) (number + 1) (items + 1)
    takes_item item is more none goes = record {
      so_far = t.so_far ++ item ∷ [];
      goes = goes_then k t.goes goes;
      same = reads.same (λ e. cc e) ∙ t.same;
      counted = omega (arith, t.counted, length-append t.so_far (item ∷ []));
      stands = λ text unread. let s = t.stands text unread in stands_take k.scripts text count taken item s (gives_as is s.passes.rest s.passes.unread) more none;
    }

    -- it isn't taken
    pub item_stops : {new : World I M} (item : I) → found ≡ Some item → 0 < left → skip ≡ 0 → (stop : StepStop) → Goes k now new (item ∷ []) (Some stop) → Ran k old new from to (count + 1) all bad (Err (Step stop))
    item_stops item is more none stop goes = record {
      so_far = t.so_far ++ item ∷ [];
      goes = goes_then k t.goes goes;
      idle = λ read. absurd read;
      reads = reads_ok (Err (Step stop)) t.same reads (λ e. cc e);
      given = λ text unread.
          let s = t.stands text unread in
          let s' : Stands k.scripts text count taken to skip (left - 1) (number + 1) (t.so_far ++ item ∷ []) = stands_take k.scripts text count taken item s (gives_as is s.passes.rest s.passes.unread) more none in record {
            more = rest_of k.scripts skip (given k.scripts.item_of (lines_of s'.passes.rest) (left - 1) (number + 1));
            split = s'.split;
            read = λ r. absurd {0} r;
            answers = tt;
            number = tt;
          };
      far = λ text unread. tt;
    }
