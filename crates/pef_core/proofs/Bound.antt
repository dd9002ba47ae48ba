-- How many steps are left at most.
use Rattle.std.proofs.Common.{◌≡◌, ◌⊎◌, inl, inr, ℕ, ◌+◌, ◌-◌, ◌*◌, ◌<◌, ◌≤◌, Bool, true, false, cond, List, [], ◌∷◌, length, drop, Option, Some, None, refl, sym, ◌∙◌, ap, subst, arith, length-append, length-drop}
use Rattle.std.specs.Prelude.{⊤, not, ◌&&◌, ◌==◌, is_some}
use Rattle.std.proofs.lemmas.Bool.{ltb-false}
use Rattle.std.proofs.lemmas.List.Quantifiers.{position-Some}
use Rattle.lan_dest.specs.Attempts.{sends}
use Rattle.event_record.specs.Fields.{record_id}
use Rattle.event_record.specs.Log.{place_in}
use Rattle.pef_match.specs.AtOnce.{at_once}
use Rattle.pef_match.specs.Parts.{Parts}
use Rattle.pef_match.specs.declared.target.Target.{Target}
use Rattle.pef_match.proofs.Sets.{all_within}
use Rattle.pef_engine.specs.declared.entry.Entry.{Entry}
use Rattle.board_core.specs.declared.step.Act.{Act}
use Rattle.job_course.specs.declared.counts.Counts.{Counts}
use Rattle.job_course.specs.declared.own.Own.{Own}
use Rattle.job_course.specs.declared.part.Part.{Part}
use Rattle.job_course.specs.declared.part.Part.TheVariants.{Acting, Alerting, OemAction}
use Rattle.job_course.specs.declared.turn.Turn.{Turn}
use Rattle.job_course.specs.declared.work.Work.{Work}
use Rattle.job_course.specs.declared.turn.Turn.TheVariants.{ToAct, ToAlert, ToOemAction}
use Rattle.job_course.specs.Steps.{is_due, trap_step, part_step}
use Rattle.job_course.specs.Undertaking.{Undertaking, is_running, turn_of, cut_of, target_at}
use Rattle.job_course.specs.Running.{Running, IsOpenPart}
use Rattle.pef_core.specs.declared.controller.Controller.{Controller}
use Rattle.pef_core.specs.declared.item.Item.{Item}
use Rattle.pef_core.specs.Histories.{running_step}
use Rattle.pef_core.specs.Settings.{ports_of}
use Rattle.pef_core.specs.Past.{Effect, Unchanged, SetPef, SetLan, Acked, Armed, Marked, SoftwareMarked, Cleared, Sends, StatusCleared, Deed, Logged, Dropped, Replied, Framed, Passed, Ticked, Powered, WasTold, ReplySent, effect_of, cleared_by, records_with, log, pef, lan_tables, delay, postpone, ticks, counts_of}
use Rattle.pef_core.specs.Course.{Course, Force, force, begun, drawn_by, is_busy, mark_behind, counted_by, counted, moved_by, number_at, number_of, with_effect, moved, may_begin, begin_jobs, next_job, course}
use Rattle.pef_core.specs.Values.{work_in, part_in, running_at, running, values}
use Rattle.pef_core.specs.Deeds.{deed, past_behind, past_of}
use Rattle.pef_core.specs.Left.{part_left, now_left}
use Rattle.pef_core.specs.Promises.{BeganFor, BeganAtOnce, AllBegan}
use Rattle.pef_core.specs.View.{ShowsController}
use Rattle.pef_core.proofs.Fitting.{NoJob, Fits, fits}
use Rattle.pef_core.proofs.Promises.{all_began, act_before_all}

one_at_most : (b : Bool) → cond b 1 0 ≤ 1
one_at_most true = omega arith
one_at_most false = omega arith

-- The mark stays within the log, and the record whose job runs stands behind it.

abbrev LatestWithin : Option ℕ → ℕ → ℕ → Type 0
LatestWithin None mark records = ⊤
LatestWithin (Some number) mark records = (mark < number) × (number ≤ records)

abbrev RunsWithin : List Undertaking → ℕ → ℕ → Type 0
RunsWithin [] mark records = ⊤
RunsWithin (u ∷ us) mark records = is_running u ≡ true → LatestWithin u.number mark records

record Within (records : ℕ) (c : Course) : Type 0 where
  pub mark : c.mark ≤ records
  pub runs : RunsWithin c.undertakings c.mark records

idle_within : (us : List Undertaking) (mark records : ℕ) → is_busy us ≡ false → RunsWithin us mark records
idle_within [] mark records idle = tt
idle_within (u ∷ us) mark records idle = λ runs. absurd (cc (runs, idle))

no_job_within : (us : List Undertaking) (mark records : ℕ) → NoJob us → RunsWithin us mark records
no_job_within [] mark records none = tt
no_job_within (u ∷ us) mark records none = λ runs. subst (λ number. LatestWithin number mark records) (sym (none runs)) tt

latest_grows : (number : Option ℕ) (mark less more : ℕ) → less ≤ more → LatestWithin number mark less → LatestWithin number mark more
latest_grows None mark less more grows within = tt
latest_grows (Some n) mark less more grows within = (within.0, omega (arith, within.1, grows))

grows_within : (us : List Undertaking) (mark less more : ℕ) → less ≤ more → RunsWithin us mark less → RunsWithin us mark more
grows_within [] mark less more grows within = tt
grows_within (u ∷ us) mark less more grows within = λ runs. latest_grows u.number mark less more grows (within runs)

same_within : (c : Course) (records : List (List ℕ)) (more : ℕ) → Within (length records) c → length records ≤ more → Within more c
same_within c records more w grows = record { mark = omega (arith, w.mark, grows); runs = grows_within c.undertakings c.mark (length records) more grows w.runs }

-- a place in the log is within it
place_within : (id : ℕ) (records : List (List ℕ)) (o : Option ℕ) → place_in records id ≡ o → number_at o ≤ length records
place_within id records None is = omega arith
place_within id records (Some place) is = omega (arith, (position-Some (λ event. record_id event == id) records place [] is).0)

-- what a command does, by the records before it and behind it
effect_within : (effect : Effect) (records : List (List ℕ)) (more : ℕ) (c : Course) → Fits effect c.undertakings → Within (length records) c
    → length (cleared_by effect records) ≤ more → Within more (with_effect effect records c)
effect_within Cleared records more c fit w grows = record { mark = omega arith; runs = idle_within c.undertakings 0 more fit }
effect_within (Marked id) records more c fit w grows = record {
  mark = omega (arith, place_within id records (place_in records id) refl, grows);
  runs = no_job_within c.undertakings (number_of records id) more fit;
}
effect_within (Sends target guid) records more c fit w grows = record { mark = omega (arith, w.mark, grows); runs = λ runs. tt }
effect_within StatusCleared records more c fit w grows = let s = same_within c records more w grows in record { mark = s.mark; runs = s.runs }
effect_within Unchanged records more c fit w grows = same_within c records more w grows
effect_within (SetPef write) records more c fit w grows = same_within c records more w grows
effect_within (SetLan write) records more c fit w grows = same_within c records more w grows
effect_within (Acked ack) records more c fit w grows = same_within c records more w grows
effect_within (Armed timer) records more c fit w grows = same_within c records more w grows
effect_within (SoftwareMarked id) records more c fit w grows = same_within c records more w grows

log_grows : (d : Deed) (records : List (List ℕ)) → length (cleared_by (effect_of d) records) ≤ length (records_with d records)
log_grows (Logged event) records = omega (arith, length-append records (event ∷ []))
log_grows (Dropped why) records = omega arith
log_grows (Replied octets effect) records = omega arith
log_grows (Framed replies ack) records = omega arith
log_grows Passed records = omega arith
log_grows Ticked records = omega arith
log_grows Powered records = omega arith
log_grows (WasTold told) records = omega arith
log_grows ReplySent records = omega arith

-- what counts for the undertaking that runs
counted_within : (counts : Counts) (records : ℕ) (us : List Undertaking) (c : Course) → c.undertakings ≡ us → c.mark ≤ records → RunsWithin us c.mark records → Within records (counted counts us c)
counted_within counts records [] c is mark runs = record { mark = mark; runs = tt }
counted_within counts records (u ∷ us) c is mark runs = by (is_running u) refl
  where
    then : Undertaking
    then = record u { since = counts ∷ u.since }

    behind_it : (number : Option ℕ) → LatestWithin number c.mark records → mark_behind number c.mark ≤ records
    behind_it None within = mark
    behind_it (Some n) within = within.1

    ends : LatestWithin u.number c.mark records → (b : Bool) → is_running then ≡ b → Within records (record { undertakings = then ∷ us; mark = cond b c.mark (mark_behind u.number c.mark); status = (counted_by true counts u us c).status })
    ends within true is = record { mark = mark; runs = λ runs. within }
    ends within false is = record { mark = behind_it u.number within; runs = λ runs. absurd (cc (runs, is)) }

    by : (b : Bool) → is_running u ≡ b → Within records (counted_by b counts u us c)
    by false is = record { mark = mark; runs = runs }
    by true is = ends (runs is) (is_running then) refl

moved_within : (counts : Option Counts) (records : ℕ) (c : Course) → Within records c → Within records (moved_by counts c)
moved_within None records c w = w
moved_within (Some counts) records c w = counted_within counts records c.undertakings c refl w.mark w.runs

-- the jobs that begin
begins_within : (f : Force) (events : List (List ℕ)) (records : ℕ) (c : Course) → is_busy c.undertakings ≡ false → Within records c → length events ≡ records - c.mark → Within records (begin_jobs f events c)
begins_within f [] records c idle w rest = w
begins_within f (event ∷ events) records c idle w rest = by (λ c idle w rest. begins_within f events records c idle w rest) (is_running u) refl
  where
    u : Undertaking
    u = begun f (c.mark + 1) event (drawn_by c.undertakings)

    passed : Course
    passed = record c { undertakings = u ∷ c.undertakings; mark = c.mark + 1 }

    by : ((c : Course) → is_busy c.undertakings ≡ false → Within records c → length events ≡ records - c.mark → Within records (begin_jobs f events c))
        → (b : Bool) → is_running u ≡ b → Within records (cond b (record c { undertakings = u ∷ c.undertakings }) (begin_jobs f events passed))
    by others true is = record { mark = w.mark; runs = λ runs. (omega arith, omega (arith, rest)) }
    by others false is = others passed is (record { mark = omega (arith, rest); runs = λ runs. absurd (cc (runs, is)) }) (omega (arith, rest))

next_within : (f : Force) (may : Bool) (records : List (List ℕ)) (c : Course) → Within (length records) c → Within (length records) (next_job f may records c)
next_within f may records c w = by (is_busy c.undertakings) refl may
  where
    by : (b : Bool) → is_busy c.undertakings ≡ b → (may : Bool) → Within (length records) (cond (not b && may) (begin_jobs f (drop c.mark records) c) c)
    by true is may = w
    by false is false = w
    by false is true = begins_within f (drop c.mark records) (length records) c is w (length-drop c.mark records)

entry_within : (Z : List ℕ) (past : List Deed) (entry : Entry Item) → Within (length (log past)) (course Z past)
    → Within (length (log (deed (values Z past) entry ∷ past))) (course Z (deed (values Z past) entry ∷ past))
entry_within Z past entry w =
    let d = deed (values Z past) entry in
    let c = with_effect (effect_of d) (log past) (course Z past) in
    let then = moved_within (counts_of d) (length (log (d ∷ past))) c (effect_within (effect_of d) (log past) (length (log (d ∷ past))) (course Z past) (fits Z past entry) w (log_grows d (log past))) in
    next_within (force Z (d ∷ past)) (may_begin (pef Z (d ∷ past)) (delay Z (d ∷ past)) (postpone (d ∷ past))) (log (d ∷ past)) (moved d (log past) (course Z past)) then

all_within_from : (Z : List ℕ) (past : List Deed) (H : List (Entry Item)) → Within (length (log past)) (course Z past) → Within (length (log (past_behind Z past H))) (course Z (past_behind Z past H))
all_within_from Z past [] w = w
all_within_from Z past (entry ∷ H) w = all_within_from Z (deed (values Z past) entry ∷ past) H (entry_within Z past entry w)

within : (Z : List ℕ) (H : List (Entry Item)) → Within (length (log (past_of Z H))) (course Z (past_of Z H))
within Z H = all_within_from Z [] H (record { mark = omega arith; runs = tt })

pub mark_within : (c : Controller) (Z : List ℕ) (H : List (Entry Item)) → ShowsController c Z H → c.mark ≤ length c.log
mark_within c Z H shows = subst (λ v. v.now.mark ≤ length v.records) (sym shows.values_are) (within Z H).mark

-- a part of a job has 18 steps before it at most
part_is_small : (j : Parts) (part : Part) → length j.targets ≤ 16 → IsOpenPart j.targets part → part_left j part ≤ 18
part_is_small j (Acting act) few is_open = omega (arith, few, one_at_most j.oem)
part_is_small j OemAction few is_open = omega arith
part_is_small j (Alerting alert) few is_open = omega (arith, few, one_at_most j.oem, is_open.one_due)

-- that of an alert at once has one
alert_is_small : (target : Target) (part : Part) → IsOpenPart (target ∷ []) part → ((act : Act) → part ≡ Acting act → ⊥) → part_left (at_once target) part ≤ 1
alert_is_small target (Acting act) is_open no_act = absurd (no_act act refl)
alert_is_small target OemAction is_open no_act = omega arith
alert_is_small target (Alerting alert) is_open no_act = omega (arith, is_open.one_due)

-- what runs is the latest undertaking
record Runs (now : ℕ) (u : Undertaking) (r : Running) : Type 0 where
  pub turn : Turn
  pub its_turn : turn_of u ≡ Some turn
  pub number : r.work.number ≡ u.number
  pub job : r.work.job ≡ u.job
  pub part : r.part ≡ part_in now u (cut_of u) turn

runs : (now : ℕ) (u : Undertaking) (r : Running) (o : Option Turn) → turn_of u ≡ o → running_at now u o ≡ Some r → Runs now u r
runs now u r None is some = absurd (cc some)
runs now u r (Some turn) is some =
    let same : record { work = work_in u; part = part_in now u (cut_of u) turn } ≡ r = cc some in
    record { turn = turn; its_turn = is; number = ap (λ x. x.work.number) (sym same); job = ap (λ x. x.work.job) (sym same); part = ap (λ x. x.part) (sym same) }

-- the steps of an alert at once; a record's are among its 18
abbrev pub extra_by : Option ℕ → Running → ℕ
extra_by None r = part_left r.work.job r.part
extra_by (Some number) r = 0

abbrev pub extra : Running → ℕ
extra r = extra_by r.work.number r

-- of what runs so many are left, beside 18 of each record behind it
pub record FewOf (r : Running) (mark records : ℕ) : Type 0 where
  pub bound : now_left (Some r) mark records ≤ 18 * (records - mark) + extra r
  pub one : extra r ≤ 1
  pub waits : (own : Own) → running_step own (Some r) ≡ None → extra r ≡ 0

-- an alert at once that waits has none left
waiting : (own : Own) (work : Work) (target : Target) (part : Part) → work.job ≡ at_once target → part_step own work part ≡ None → part_left (at_once target) part ≡ 0
waiting own work target (Acting act) job_is none = absurd (cc none)
waiting own work target OemAction job_is none = absurd (cc none)
waiting own work target (Alerting alert) job_is none = by (is_due alert.attempt) refl none
  where
    by : (b : Bool) → is_due alert.attempt ≡ b → cond b (Some (trap_step own work alert (target_at work.job.targets alert.first alert.place))) None ≡ None → part_left (at_once target) (Alerting alert) ≡ 0
    by true is none = absurd (cc none)
    by false is none = omega (arith, ltb-false alert.attempt.outcomes (sends alert.attempt.wait alert.attempt.retries alert.attempt.ticks) is)

module _ (Z : List ℕ) (past : List Deed) (r : Running) (is_open : IsOpenPart r.work.job.targets r.part) where
  abbrev records : ℕ
  records = length (log past)

  by_latest : (us : List Undertaking) (mark : ℕ) → RunsWithin us mark records → AllBegan Z past us → running (ticks past) us ≡ Some r → FewOf r mark records
  by_latest [] mark w began is = absurd (cc is)
  by_latest (u ∷ us) mark w began is = by began.0
    where
      it : Runs (ticks past) u r
      it = runs (ticks past) u r (turn_of u) refl is

      latest : LatestWithin u.number mark records
      latest = w (ap is_some it.its_turn)

      no_act : u.job.act ≡ None → (act : Act) → r.part ≡ Acting act → ⊥
      no_act none act is_act = by it.turn it.its_turn it.part
        where
          by : (turn : Turn) → turn_of u ≡ Some turn → r.part ≡ part_in (ticks past) u (cut_of u) turn → ⊥
          by (ToAct other) its part = let first = (act_before_all u other its).1 in cc (first, none)
          by (ToAlert first place) its part = cc (part, is_act)
          by ToOemAction its part = cc (part, is_act)

      by : BeganFor Z past u ⊎ BeganAtOnce past u → FewOf r mark records
      by (inl b) =
          let few : length u.job.targets ≤ 16 = subst (λ j. length j.targets ≤ 16) (sym b.job_is) (all_within (pef Z b.start) (lan_tables b.start) (ports_of Z) b.event) in
          let at : LatestWithin (Some (length b.before + 1)) mark records = subst (λ n. LatestWithin n mark records) b.number latest in
          let small = part_is_small r.work.job r.part (subst (λ j. length j.targets ≤ 16) (sym it.job) few) is_open in
          record {
            bound = subst (λ n. part_left r.work.job r.part + 18 * (records - mark_behind n mark) ≤ 18 * (records - mark) + extra_by n r) (sym (it.number ∙ b.number)) (omega (arith, small, at.0, at.1));
            one = subst (λ n. extra_by n r ≤ 1) (sym (it.number ∙ b.number)) (omega arith);
            waits = λ own none. ap (λ n. extra_by n r) (it.number ∙ b.number);
          }
      by (inr b) =
          let job_is : r.work.job ≡ at_once b.target = it.job ∙ b.job_is in
          let small : part_left (at_once b.target) r.part ≤ 1 = alert_is_small b.target r.part (subst (λ j. IsOpenPart j.targets r.part) job_is is_open) (no_act (ap (λ j. j.act) b.job_is)) in
          record {
            bound = subst (λ n. part_left r.work.job r.part + 18 * (records - mark_behind n mark) ≤ 18 * (records - mark) + extra_by n r) (sym (it.number ∙ b.number)) (omega arith);
            one = subst (λ n. extra_by n r ≤ 1) (sym (it.number ∙ b.number)) (subst (λ j. part_left j r.part ≤ 1) (sym job_is) small);
            waits = λ own none. ap (λ n. extra_by n r) (it.number ∙ b.number) ∙ ap (λ j. part_left j r.part) job_is ∙ waiting own r.work b.target r.part job_is none;
          }

pub few_of : (c : Controller) (r : Running) → c.running ≡ Some r → IsOpenPart r.work.job.targets r.part → (Z : List ℕ) (H : List (Entry Item)) → ShowsController c Z H
    → FewOf r c.mark (length c.log)
few_of c r some is_open Z H shows =
    let past = past_of Z H in
    let runs_there : running (ticks past) (course Z past).undertakings ≡ Some r = sym (ap (λ v. v.now.running) shows.values_are) ∙ some in
    let few = by_latest Z past r is_open (course Z past).undertakings (course Z past).mark (within Z H).runs (all_began Z past) runs_there in
    subst (λ v. FewOf r v.now.mark (length v.records)) (sym shows.values_are) few
