-- The course of a history goes in order, and each job is that of its record by the parameters at its start.
use Rattle.std.proofs.Common.{◌≡◌, ◌⊎◌, inl, inr, ℕ, suc, zero, ◌+◌, ◌-◌, ◌≤◌, Bool, true, false, cond, List, [], ◌∷◌, ◌++◌, length, take, drop, Option, Some, None, refl, sym, ◌∙◌, ap, subst, arith, length-append, append_assoc, length-drop}
use Rattle.std.specs.Prelude.{not, ◌&&◌, is_some}
use Rattle.std.proofs.lemmas.List.{take-append-drop}
use Rattle.board_core.specs.declared.step.Act.{Act}
use Rattle.board_core.specs.declared.step.Told.{Told}
use Rattle.board_core.specs.declared.step.Told.TheVariants.{Done, Failed}
use Rattle.pef_engine.specs.declared.entry.Entry.{Entry}
use Rattle.pef_match.specs.Parts.{Parts}
use Rattle.policy_walk.specs.Tried.{place_after}
use Rattle.job_course.specs.declared.counts.Counts.{Counts}
use Rattle.job_course.specs.declared.counts.Counts.TheVariants.{Second, Ack, Heard}
use Rattle.job_course.specs.declared.turn.Turn.{Turn}
use Rattle.job_course.specs.declared.turn.Turn.TheVariants.{ToAct, ToAlert, ToOemAction}
use Rattle.job_course.specs.Undertaking.{Undertaking, Stage, First, InSet, Finished, stops_at, first_stage, set_at, results_in, turn_in, turn_at, stage_after, sequence_behind, result_of, ended_or, joined, cut_by, cut_of, turn_of, is_running}
use Rattle.job_course.specs.Counting.{outcomes, outcome_in}
use Rattle.pef_core.specs.declared.item.Item.{Item}
use Rattle.pef_core.specs.Past.{Effect, Unchanged, SetPef, SetLan, Acked, Armed, Marked, SoftwareMarked, Cleared, Sends, StatusCleared, Deed, Logged, Dropped, Replied, Framed, Passed, Ticked, Powered, WasTold, ReplySent, effect_of, log, pef, delay, postpone, counts_of}
use Rattle.pef_core.specs.Course.{Course, force, begun, drawn_by, is_busy, mark_behind, counted_by, counted, moved_by, with_effect, moved, may_begin, begin_jobs, next_job, course}
use Rattle.pef_core.specs.Deeds.{deed, past_behind, past_of}
use Rattle.pef_core.specs.Promises.{numbers, reached_by, reached, numbers_behind, GoesInOrder, moves_mark, NoneMoves, BeganFor, BeganAtOnce, AllBegan, heard_by}
use Rattle.pef_core.specs.Values.{values}
use Rattle.pef_core.proofs.Fitting.{Fits, fits}
use Rattle.pef_core.proofs.Standing.{target_turn}

-- one deed more behind a place
later_by : (Z : List ℕ) (d : Deed) (past : List Deed) (u : Undertaking) → BeganFor Z past u ⊎ BeganAtOnce past u → BeganFor Z (d ∷ past) u ⊎ BeganAtOnce (d ∷ past) u
later_by Z d past u (inl b) = inl (record {
  later = d ∷ b.later;
  start = b.start;
  place = ap (λ p. d ∷ p) b.place;
  before = b.before;
  event = b.event;
  behind = b.behind;
  records = b.records;
  number = b.number;
  job_is = b.job_is;
  guid_is = b.guid_is;
})
later_by Z d past u (inr b) = inr (record {
  later = d ∷ b.later;
  octets = b.octets;
  target = b.target;
  start = b.start;
  place = ap (λ p. d ∷ p) b.place;
  number = b.number;
  job_is = b.job_is;
})

all_later : (Z : List ℕ) (d : Deed) (past : List Deed) (us : List Undertaking) → AllBegan Z past us → AllBegan Z (d ∷ past) us
all_later Z d past [] all = tt
all_later Z d past (u ∷ us) all = (later_by Z d past u all.0, all_later Z d past us all.1)

-- whatever counts for it
with_more : (Z : List ℕ) (past : List Deed) (counts : Counts) (u : Undertaking) → BeganFor Z past u ⊎ BeganAtOnce past u
    → BeganFor Z past (record u { since = counts ∷ u.since }) ⊎ BeganAtOnce past (record u { since = counts ∷ u.since })
with_more Z past counts u (inl b) = inl (record {
  later = b.later;
  start = b.start;
  place = b.place;
  before = b.before;
  event = b.event;
  behind = b.behind;
  records = b.records;
  number = b.number;
  job_is = b.job_is;
  guid_is = b.guid_is;
})
with_more Z past counts u (inr b) = inr (record { later = b.later; octets = b.octets; target = b.target; start = b.start; place = b.place; number = b.number; job_is = b.job_is })

began_counted : (Z : List ℕ) (past : List Deed) (counts : Counts) (us : List Undertaking) (c : Course) → AllBegan Z past us → AllBegan Z past (counted counts us c).undertakings
began_counted Z past counts [] c all = tt
began_counted Z past counts (u ∷ us) c all = by (is_running u)
  where
    by : (b : Bool) → AllBegan Z past (counted_by b counts u us c).undertakings
    by false = all
    by true = (with_more Z past counts u all.0, all.1)

began_moved : (Z : List ℕ) (past : List Deed) (counts : Option Counts) (c : Course) → AllBegan Z past c.undertakings → AllBegan Z past (moved_by counts c).undertakings
began_moved Z past None c all = all
began_moved Z past (Some counts) c all = began_counted Z past counts c.undertakings c all

began_with : (Z : List ℕ) (d : Deed) (past : List Deed) (records : List (List ℕ)) (c : Course) → AllBegan Z (d ∷ past) c.undertakings
    → AllBegan Z (d ∷ past) (with_effect (effect_of d) records c).undertakings
began_with Z (Replied octets effect) past records c all = by effect all
  where
    by : (effect : Effect) → AllBegan Z (Replied octets effect ∷ past) c.undertakings → AllBegan Z (Replied octets effect ∷ past) (with_effect effect records c).undertakings
    by (Sends target guid) all = (inr (record { later = []; octets = octets; target = target; start = past; place = refl; number = refl; job_is = refl }), all)
    by Unchanged all = all
    by (SetPef write) all = all
    by (SetLan write) all = all
    by (Acked ack) all = all
    by (Armed timer) all = all
    by (Marked id) all = all
    by (SoftwareMarked id) all = all
    by Cleared all = all
    by StatusCleared all = all
began_with Z (Logged event) past records c all = all
began_with Z (Dropped why) past records c all = all
began_with Z (Framed replies ack) past records c all = all
began_with Z Passed past records c all = all
began_with Z Ticked past records c all = all
began_with Z Powered past records c all = all
began_with Z (WasTold told) past records c all = all
began_with Z ReplySent past records c all = all

plus_one : (n : ℕ) → n + 1 ≡ suc n
plus_one n = omega arith

none_on : (n : ℕ) → n + 0 ≡ n
none_on n = omega arith

suc_on : (m n : ℕ) → suc m + n ≡ suc (m + n)
suc_on m n = omega arith

none_before : (n : ℕ) → 0 + n ≡ n
none_before n = omega arith

stays : (c : Course) → GoesInOrder c c
stays c = record { count = 0; numbered = refl; reaches = sym (none_on (reached c)) }

-- one stretch behind another
numbers_behind-append : (start first more : ℕ) (rest : List ℕ) → numbers_behind (start + first) more ++ (numbers_behind start first ++ rest) ≡ numbers_behind start (more + first) ++ rest
numbers_behind-append start first zero rest = ap (λ n. numbers_behind start n ++ rest) (sym (none_before first))
numbers_behind-append start first (suc more) rest =
    ap (λ n. n ∷ numbers_behind (start + first) more ++ (numbers_behind start first ++ rest)) (together start first more)
    ∙ ap (λ ns. (start + suc (more + first)) ∷ ns) (numbers_behind-append start first more rest)
    ∙ ap (λ n. numbers_behind start n ++ rest) (sym (suc_on more first))
  where
    together : (a b c : ℕ) → a + b + suc c ≡ a + suc (c + b)
    together a b c = omega arith

then_goes : (a b c : Course) → GoesInOrder a b → GoesInOrder b c → GoesInOrder a c
then_goes a b c first next = record {
  count = next.count + first.count;
  numbered =
      next.numbered
      ∙ ap (λ r. numbers_behind r next.count ++ numbers b.undertakings) first.reaches
      ∙ ap (λ ns. numbers_behind (reached a + first.count) next.count ++ ns) first.numbered
      ∙ numbers_behind-append (reached a) first.count next.count (numbers a.undertakings);
  reaches = omega (arith, first.reaches, next.reaches);
}

-- a course that changes neither
same_order : (a b : Course) → numbers b.undertakings ≡ numbers a.undertakings → reached b ≡ reached a → GoesInOrder a b
same_order a b numbered reaches = record { count = 0; numbered = numbered; reaches = reaches ∙ sym (none_on (reached a)) }

idle_reached : (us : List Undertaking) (mark : ℕ) → is_busy us ≡ false → reached_by us mark ≡ mark
idle_reached [] mark idle = refl
idle_reached (u ∷ us) mark idle = ap (λ b. cond b (mark_behind u.number mark) mark) idle

module _ (Z : List ℕ) (past : List Deed) where
  -- in order; each is that of its record; and where none of them goes on no record is left
  record Begins (before c : Course) : Type 0 where
    pub order : GoesInOrder before c
    pub began : AllBegan Z past c.undertakings
    pub through : is_busy c.undertakings ≡ false → length (log past) ≤ c.mark

  begun_in : (before : List (List ℕ)) (event : List ℕ) (events : List (List ℕ)) (c : Course) → log past ≡ before ++ event ∷ events → length before ≡ c.mark
      → BeganFor Z past (begun (force Z past) (c.mark + 1) event (drawn_by c.undertakings))
  begun_in before event events c is at = record {
    later = [];
    start = past;
    place = refl;
    before = before;
    event = event;
    behind = events;
    records = is;
    number = ap (λ n. Some (n + 1)) (sym at);
    job_is = refl;
    guid_is = refl;
  }

  begins : (events before : List (List ℕ)) (c : Course) → log past ≡ before ++ events → length events ≡ length (log past) - c.mark → is_busy c.undertakings ≡ false
      → AllBegan Z past c.undertakings → Begins c (begin_jobs (force Z past) events c)
  begins [] before c is rest idle all = record { order = stays c; began = all; through = λ none. omega (arith, rest) }
  begins (event ∷ events) before c is rest idle all = by (λ c is rest idle all. begins events (before ++ event ∷ []) c is rest idle all) (is_running u) refl
    where
      u : Undertaking
      u = begun (force Z past) (c.mark + 1) event (drawn_by c.undertakings)

      at : length before ≡ c.mark
      at = omega (arith, rest, ap length is, length-append before (event ∷ events))

      began : AllBegan Z past (u ∷ c.undertakings)
      began = (inl (begun_in before event events c is at), all)

      next_place : log past ≡ (before ++ event ∷ []) ++ events
      next_place = is ∙ sym (append_assoc before (event ∷ []) events)

      passed : Course
      passed = record c { undertakings = u ∷ c.undertakings; mark = c.mark + 1 }

      one_more : numbers (u ∷ c.undertakings) ≡ numbers_behind (reached c) 1 ++ numbers c.undertakings
      one_more = ap (λ n. (n + 1) ∷ numbers c.undertakings) (sym (idle_reached c.undertakings c.mark idle))

      by : ((c : Course) → log past ≡ (before ++ event ∷ []) ++ events → length events ≡ length (log past) - c.mark → is_busy c.undertakings ≡ false → AllBegan Z past c.undertakings
          → Begins c (begin_jobs (force Z past) events c))
          → (b : Bool) → is_running u ≡ b
          → Begins c (cond b (record c { undertakings = u ∷ c.undertakings }) (begin_jobs (force Z past) events passed))
      by others true runs = record {
        order = record {
          count = 1;
          numbered = one_more;
          reaches = ap (λ b. cond b (c.mark + 1) c.mark) runs ∙ ap (λ n. n + 1) (sym (idle_reached c.undertakings c.mark idle));
        };
        began = began;
        through = λ none. absurd (cc (runs, none));
      }
      by others false runs =
          let first : GoesInOrder c passed = record {
            count = 1;
            numbered = one_more;
            reaches = ap (λ b. cond b (c.mark + 1) (c.mark + 1)) runs ∙ ap (λ n. n + 1) (sym (idle_reached c.undertakings c.mark idle));
          } in
          let then = others passed next_place (omega (arith, rest)) runs began in
          record { order = then_goes c passed (begin_jobs (force Z past) events passed) first then.order; began = then.began; through = then.through }

  -- the next job of a course
  next_begins : (c : Course) → AllBegan Z past c.undertakings → (may : Bool)
      → GoesInOrder c (next_job (force Z past) may (log past) c)
      × AllBegan Z past (next_job (force Z past) may (log past) c).undertakings
      × (is_busy (next_job (force Z past) may (log past) c).undertakings ≡ false → may ≡ true → length (log past) ≤ (next_job (force Z past) may (log past) c).mark)
  next_begins c all may = by (is_busy c.undertakings) refl may
    where
      jobs : is_busy c.undertakings ≡ false → Begins c (begin_jobs (force Z past) (drop c.mark (log past)) c)
      jobs idle = begins (drop c.mark (log past)) (take c.mark (log past)) c (sym (take-append-drop c.mark (log past))) (length-drop c.mark (log past)) idle all

      by : (b : Bool) → is_busy c.undertakings ≡ b → (may : Bool)
          → GoesInOrder c (cond (not b && may) (begin_jobs (force Z past) (drop c.mark (log past)) c) c)
          × AllBegan Z past (cond (not b && may) (begin_jobs (force Z past) (drop c.mark (log past)) c) c).undertakings
          × (is_busy (cond (not b && may) (begin_jobs (force Z past) (drop c.mark (log past)) c) c).undertakings ≡ false → may ≡ true
          → length (log past) ≤ (cond (not b && may) (begin_jobs (force Z past) (drop c.mark (log past)) c) c).mark)
      by true busy may = (stays c, all, λ none on. absurd (cc (busy, none)))
      by false idle false = (stays c, all, λ none on. absurd (cc on))
      by false idle true = let b = jobs idle in (b.order, b.began, λ none on. b.through none)

abbrev may_at : List ℕ → List Deed → Bool
may_at Z past = may_begin (pef Z past) (delay Z past) (postpone past)

began_before : (Z : List ℕ) (d : Deed) (past : List Deed) → AllBegan Z past (course Z past).undertakings → AllBegan Z (d ∷ past) (moved d (log past) (course Z past)).undertakings
began_before Z d past all =
    let c = course Z past in
    began_moved Z (d ∷ past) (counts_of d) (with_effect (effect_of d) (log past) c) (began_with Z d past (log past) c (all_later Z d past c.undertakings all))

pub all_began : (Z : List ℕ) (past : List Deed) → AllBegan Z past (course Z past).undertakings
all_began Z [] = tt
all_began Z (d ∷ past) = (next_begins Z (d ∷ past) (moved d (log past) (course Z past)) (began_before Z d past (all_began Z past)) (may_at Z (d ∷ past))).1

pub none_is_left : (Z : List ℕ) (past : List Deed) → is_busy (course Z past).undertakings ≡ false → may_at Z past ≡ true → length (log past) ≤ (course Z past).mark
none_is_left Z [] idle may = omega arith
none_is_left Z (d ∷ past) idle may =
    (next_begins Z (d ∷ past) (moved d (log past) (course Z past)) (began_before Z d past (all_began Z past)) (may_at Z (d ∷ past))).2 idle may

-- nothing begins while it is held
pub held : (Z : List ℕ) (d : Deed) (past : List Deed) → may_at Z (d ∷ past) ≡ false → course Z (d ∷ past) ≡ moved d (log past) (course Z past)
held Z d past is = by (is_busy (moved d (log past) (course Z past)).undertakings) (may_at Z (d ∷ past)) is
  where
    c : Course
    c = moved d (log past) (course Z past)

    by : (b may : Bool) → may ≡ false → cond (not b && may) (begin_jobs (force Z (d ∷ past)) (drop c.mark (log (d ∷ past))) c) c ≡ c
    by b true is = absurd (cc is)
    by true false is = refl
    by false false is = refl

-- what counts for the undertaking that runs brings it no further
counts_stay : (counts : Counts) (us : List Undertaking) (c : Course) → c.undertakings ≡ us → GoesInOrder (record c { undertakings = us }) (counted counts us c)
counts_stay counts [] c is = same_order (record c { undertakings = [] }) (record c { undertakings = [] }) refl refl
counts_stay counts (u ∷ us) c is = by (is_running u) refl
  where
    then : Undertaking
    then = record u { since = counts ∷ u.since }

    by : (b : Bool) → is_running u ≡ b → GoesInOrder (record c { undertakings = u ∷ us }) (counted_by b counts u us c)
    by false runs = stays (record c { undertakings = u ∷ us })
    by true runs = same_order (record c { undertakings = u ∷ us }) (counted_by true counts u us c) refl (
        ends (is_running then) ∙ sym (ap (λ b. cond b (mark_behind u.number c.mark) c.mark) runs))
      where
        twice : (number : Option ℕ) (mark : ℕ) → mark_behind number (mark_behind number mark) ≡ mark_behind number mark
        twice None mark = refl
        twice (Some n) mark = refl

        ends : (b : Bool) → cond b (mark_behind u.number (cond b c.mark (mark_behind u.number c.mark))) (cond b c.mark (mark_behind u.number c.mark)) ≡ mark_behind u.number c.mark
        ends true = refl
        ends false = refl

moves_stay : (counts : Option Counts) (c : Course) → GoesInOrder c (moved_by counts c)
moves_stay None c = stays c
moves_stay (Some counts) c = counts_stay counts c.undertakings c refl

effect_stays : (effect : Effect) (records : List (List ℕ)) (c : Course) → moves_mark effect ≡ false → Fits effect c.undertakings → GoesInOrder c (with_effect effect records c)
effect_stays (Sends target guid) records c quiet fit = same_order c (with_effect (Sends target guid) records c) refl (
    ap (λ o. cond (is_some o) c.mark c.mark) (target_turn target guid (drawn_by c.undertakings)) ∙ sym (idle_reached c.undertakings c.mark fit))
effect_stays Unchanged records c quiet fit = stays c
effect_stays (SetPef write) records c quiet fit = stays c
effect_stays (SetLan write) records c quiet fit = stays c
effect_stays (Acked ack) records c quiet fit = stays c
effect_stays (Armed timer) records c quiet fit = stays c
effect_stays (Marked id) records c quiet fit = absurd (cc quiet)
effect_stays (SoftwareMarked id) records c quiet fit = stays c
effect_stays Cleared records c quiet fit = absurd (cc quiet)
effect_stays StatusCleared records c quiet fit = same_order c (record c { status = 0x00 }) refl refl

one_goes : (Z : List ℕ) (past : List Deed) (entry : Entry Item) → moves_mark (effect_of (deed (values Z past) entry)) ≡ false
    → GoesInOrder (course Z past) (course Z (deed (values Z past) entry ∷ past))
one_goes Z past entry quiet =
    let d = deed (values Z past) entry in
    let c = course Z past in
    let e = with_effect (effect_of d) (log past) c in
    let m = moved d (log past) c in
    then_goes c m (course Z (d ∷ past))
    (then_goes c e m (effect_stays (effect_of d) (log past) c quiet (fits Z past entry)) (moves_stay (counts_of d) e))
    (next_begins Z (d ∷ past) m (began_before Z d past (all_began Z past)) (may_at Z (d ∷ past))).0

all_go : (Z : List ℕ) (past : List Deed) (K : List (Entry Item)) → NoneMoves Z past K → GoesInOrder (course Z past) (course Z (past_behind Z past K))
all_go Z past [] none = stays (course Z past)
all_go Z past (entry ∷ K) none =
    let d = deed (values Z past) entry in
    then_goes (course Z past) (course Z (d ∷ past)) (course Z (past_behind Z (d ∷ past) K)) (one_goes Z past entry none.0) (all_go Z (d ∷ past) K none.1)

past_behind-both : (Z : List ℕ) (past : List Deed) (H K : List (Entry Item)) → past_behind Z past (H ++ K) ≡ past_behind Z (past_behind Z past H) K
past_behind-both Z past [] K = refl
past_behind-both Z past (entry ∷ H) K = past_behind-both Z (deed (values Z past) entry ∷ past) H K

pub goes_in_order : (Z : List ℕ) (H K : List (Entry Item)) → NoneMoves Z (past_of Z H) K → GoesInOrder (course Z (past_of Z H)) (course Z (past_of Z (H ++ K)))
goes_in_order Z H K none = subst (λ past. GoesInOrder (course Z (past_of Z H)) (course Z past)) (sym (past_behind-both Z [] H K)) (all_go Z (past_of Z H) K none)

-- whose turn it is in a set isn't the act's
in_set_is_no_act : (j : Parts) (first : ℕ) (place : Option ℕ) (act : Act) → turn_in j first place ≡ Some (ToAct act) → ⊥
in_set_is_no_act j first (Some place) act is = cc is
in_set_is_no_act j first None act is = by j.oem is
  where
    by : (b : Bool) → cond b (Some ToOemAction) None ≡ Some (ToAct act) → ⊥
    by true e = cc e
    by false e = cc e

-- The act's turn comes at the start alone, and it is the job's.
pub act_is_first : (j : Parts) (stage : Stage) (act : Act) → turn_at j stage ≡ Some (ToAct act) → stage ≡ First act
act_is_first j (First first) act is = let same : first ≡ act = cc is in ap First same
act_is_first j (InSet first results) act is = absurd (in_set_is_no_act j first (place_after (stops_at j.targets first) results) act is)
act_is_first j Finished act is = absurd (cc is)

-- no part leads to the act
no_act_behind : (j : Parts) (turn : Turn) (result : Bool) (stage : Stage) (act : Act) → stage_after j turn result stage ≡ First act → ⊥
no_act_behind j (ToAct done) result stage act is = cc is
no_act_behind j ToOemAction result stage act is = cc is
no_act_behind j (ToAlert first place) result stage act is = by (is_some (place_after (stops_at j.targets first) (results_in stage ++ result ∷ []))) is
  where
    by : (b : Bool) → cond b (InSet first (results_in stage ++ result ∷ [])) (InSet (first + length (set_at j.targets first)) []) ≡ First act → ⊥
    by true e = cc e
    by false e = cc e

-- while the act is open nothing had an outcome
first_is : (act : Option Act) (first : Act) → first_stage act ≡ First first → act ≡ Some first
first_is None first is = absurd (cc is)
first_is (Some act) first is = let same : act ≡ first = cc is in ap Some same

-- at the act's stage no outcome was heard, and the act is the job's
abbrev AtAct : Undertaking → List Counts → Act → Type 0
AtAct u since act = (outcomes since ≡ 0) × (u.job.act ≡ Some act)

module _ (u : Undertaking) (act : Act) where
  by_turn : (since : List Counts) (more : Counts) → ((cut_by u since).stage ≡ First act → AtAct u since act)
      → (o : Option Turn) → turn_at u.job (cut_by u since).stage ≡ o → (joined u more (cut_by u since) o).stage ≡ First act → AtAct u (more ∷ since) act
  by_turn since more before None none is = absurd (cc (none, ap (turn_at u.job) is))
  by_turn since more before (Some turn) some is = by (result_of u.job (sequence_behind (u.drawn + (cut_by u since).alerts)) turn (more ∷ (cut_by u since).since)) refl is
    where
      by : (r : Option Bool) → result_of u.job (sequence_behind (u.drawn + (cut_by u since).alerts)) turn (more ∷ (cut_by u since).since) ≡ r
          → (ended_or u.job turn r (more ∷ (cut_by u since).since) (cut_by u since)).stage ≡ First act → AtAct u (more ∷ since) act
      by (Some result) is_so stage = absurd (no_act_behind u.job turn result (cut_by u since).stage act stage)
      by None is_so stage = not_heard more (ap (λ t. result_of u.job (sequence_behind (u.drawn + (cut_by u since).alerts)) t (more ∷ (cut_by u since).since)) (its_turn stage) ∙ is_so)
        where
          its_turn : (cut_by u since).stage ≡ First act → ToAct act ≡ turn
          its_turn at = let same : Some (ToAct act) ≡ Some turn = sym (ap (turn_at u.job) at) ∙ some in cc same

          not_heard : (counts : Counts) → outcome_in (counts ∷ (cut_by u since).since) ≡ None → AtAct u (counts ∷ since) act
          not_heard (Heard told) none = absurd (cc none)
          not_heard Second none = before stage
          not_heard (Ack ack) none = before stage

  at_act : (since : List Counts) → (cut_by u since).stage ≡ First act → AtAct u since act
  at_act [] is = (refl, first_is u.job.act act is)
  at_act (more ∷ since) is = by_turn since more (at_act since) (turn_at u.job (cut_by u since).stage) refl is

pub act_before_all : (u : Undertaking) (act : Act) → turn_of u ≡ Some (ToAct act) → (outcomes u.since ≡ 0) × (u.job.act ≡ Some act)
act_before_all u act is = at_act u act u.since (act_is_first u.job (cut_of u).stage act is)

pub oem_is_last : (u : Undertaking) (told : Told) → turn_of u ≡ Some ToOemAction → turn_of (heard_by told u) ≡ None
oem_is_last u told is = ap (λ o. turn_at u.job (joined u (Heard told) (cut_of u) o).stage) is

pub act_not_again : (u : Undertaking) (act : Act) → turn_of u ≡ Some (ToAct act) → turn_of (heard_by Failed u) ≡ turn_of (heard_by Done u)
act_not_again u act is =
    ap (λ o. turn_at u.job (joined u (Heard Failed) (cut_of u) o).stage) is
    ∙ sym (ap (λ o. turn_at u.job (joined u (Heard Done) (cut_of u) o).stage) is)
