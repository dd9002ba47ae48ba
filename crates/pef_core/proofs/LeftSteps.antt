-- An outcome leaves fewer steps, and a job that begins has 18 at most.
use Rattle.std.proofs.Common.{◌≡◌, ℕ, ◌+◌, ◌-◌, ◌*◌, ◌<◌, ◌≤◌, min, Bool, true, false, cond, nat_lt, List, [], ◌∷◌, length, drop, Option, Some, None, refl, sym, ◌∙◌, ap, subst, arith, length-drop, length-take}
use Rattle.std.specs.Prelude.{◌&&◌, ◌==◌, not, is_some}
use Rattle.std.proofs.Math.Nat.{zero-div}
use Rattle.std.proofs.lemmas.Bool.{ltb-true, and_parts}
use Rattle.std.proofs.lemmas.List.{length-map}
use Rattle.std.specs.List.{prefix_len}
use Rattle.std.specs.Option.{IsSome}
use Rattle.board_core.specs.declared.step.Act.{Act}
use Rattle.board_core.specs.declared.step.Told.{Told}
use Rattle.lan_dest.specs.Attempts.{sends, IsDue}
use Rattle.policy_walk.specs.declared.stop.Stop.{Stop}
use Rattle.policy_walk.specs.First.{first_tried}
use Rattle.policy_walk.specs.Tried.{Wanted, Any, is_tried, passed}
use Rattle.pef_match.specs.declared.target.Target.{Target}
use Rattle.pef_match.specs.Parts.{Parts}
use Rattle.pef_match.proofs.Sets.{all_within}
use Rattle.board_core.specs.declared.step.Step.{Step}
use Rattle.job_course.specs.declared.counts.Counts.TheVariants.{Heard}
use Rattle.job_course.specs.declared.part.Part.{Part}
use Rattle.job_course.specs.declared.part.Part.TheVariants.{Acting, Alerting, OemAction}
use Rattle.job_course.specs.declared.own.Own.{Own}
use Rattle.job_course.specs.declared.turn.Turn.{Turn}
use Rattle.job_course.specs.declared.turn.Turn.TheVariants.{ToAct, ToAlert, ToOemAction}
use Rattle.job_course.specs.declared.work.Work.{Work}
use Rattle.job_course.specs.Undertaking.{one_set, set_at, stops_at, target_at, first_stage, turn_in, turn_at}
use Rattle.job_course.specs.Running.{Running, IsOpenPart, MayCount}
use Rattle.job_course.specs.Turns.{turn_from, turn_or_next, turn_behind, first_turn}
use Rattle.job_course.specs.Progress.{part_after, result_after, part_begun, progress, progress_by}
use Rattle.job_course.specs.Steps.{is_due, trap_step, part_step}
use Rattle.job_course.proofs.TurnOrder.{starts}
use Rattle.pef_core.specs.Past.{WasTold, ReplySent}
use Rattle.pef_core.specs.Course.{Force, mark_behind}
use Rattle.pef_core.specs.Values.{Now, Values, stamp_at, force_of}
use Rattle.pef_core.specs.After.{begins, now_with, counted_now, work_of, begin_with, begin_jobs_now, begun, with_deed, may_begin_now, with_next_job}
use Rattle.pef_core.specs.Histories.{running_step, first_or}
use Rattle.pef_core.specs.Left.{oem_left, part_left, turn_left, progress_left, now_left, left}

-- the place of a stop that is tried, in a list that begins at this place
first_tried_within : (wanted : Wanted) (succeeded : Bool) (place : ℕ) (stops : List Stop) (next : ℕ) → first_tried wanted succeeded place stops ≡ Some next
    → (place ≤ next) × (next < place + length stops)
first_tried_within wanted succeeded place [] next is = absurd (cc is)
first_tried_within wanted succeeded place (stop ∷ stops) next is = by (is_tried wanted succeeded stop) is (λ is. first_tried_within (passed wanted stop) succeeded (place + 1) stops next is)
  where
    by : (b : Bool) → cond b (Some place) (first_tried (passed wanted stop) succeeded (place + 1) stops) ≡ Some next
        → (first_tried (passed wanted stop) succeeded (place + 1) stops ≡ Some next → (place + 1 ≤ next) × (next < place + 1 + length stops))
        → (place ≤ next) × (next < place + length (stop ∷ stops))
    by true some later = let same : place ≡ next = cc some in (omega (arith, same), omega (arith, same))
    by false some later = let l = later some in (omega (arith, l.0), omega (arith, l.1))

one_set_within : (targets : List Target) → length (one_set targets) ≤ length targets
one_set_within [] = omega arith
one_set_within (target ∷ targets) =
    let n = prefix_len (λ other. other.policy_number == target.policy_number) (target ∷ targets) in
    omega (arith, length-take n (target ∷ targets))

pub set_within : (targets : List Target) (first : ℕ) → length (set_at targets first) ≤ length targets - first
set_within targets first = omega (arith, one_set_within (drop first targets), length-drop first targets)

stops_are : (targets : List Target) (first : ℕ) → length (stops_at targets first) ≡ length (set_at targets first)
stops_are targets first = length-map (set_at targets first) (λ t. t.stop)

-- the target of a turn is among them
pub turn_within : (targets : List Target) (first place : ℕ) → first ≤ length targets → place < length (set_at targets first) → first + place < length targets
turn_within targets first place from within = omega (arith, set_within targets first, from, within)

module _ (job : Parts) where
  abbrev all : ℕ
  all = length job.targets

  calls_left : (first : ℕ) → turn_left job (turn_in job first None) ≤ oem_left job
  calls_left first = by job.oem
    where
      by : (b : Bool) → turn_left job (cond b (Some ToOemAction) None) ≤ cond b 1 0
      by true = omega arith
      by false = omega arith

  from_left : (first : ℕ) → turn_left job (turn_from job first) ≤ all - first + oem_left job
  from_left first = by (nat_lt first all) refl
    where
      by : (b : Bool) → nat_lt first all ≡ b → turn_left job (cond b (Some (ToAlert first 0)) (turn_in job first None)) ≤ all - first + oem_left job
      by true is = omega (arith, ltb-true first all is)
      by false is = omega (arith, calls_left first)

  behind_left : (first place : ℕ) (result : Bool) → first ≤ all → place < length (set_at job.targets first)
      → turn_left job (turn_or_next job first (first_tried Any result (place + 1) (drop (place + 1) (stops_at job.targets first)))) ≤ all - (first + place + 1) + oem_left job
  behind_left first place result from within = by (first_tried Any result (place + 1) (drop (place + 1) (stops_at job.targets first))) refl
    where
      by : (o : Option ℕ) → first_tried Any result (place + 1) (drop (place + 1) (stops_at job.targets first)) ≡ o → turn_left job (turn_or_next job first o) ≤ all - (first + place + 1) + oem_left job
      by None is = omega (arith, from_left (first + length (set_at job.targets first)), within)
      by (Some next) is =
          let bounds = first_tried_within Any result (place + 1) (drop (place + 1) (stops_at job.targets first)) next is in
          omega (arith, bounds.0, bounds.1, length-drop (place + 1) (stops_at job.targets first), stops_are job.targets first, set_within job.targets first, from, within)

  -- behind a part whose step is due
  ends_with_less : (part : Part) (told : Told) (result : Bool) → IsOpenPart job.targets part → MayCount (Heard told) part → turn_left job (turn_behind job part result) < part_left job part
  ends_with_less (Acting act) told result is_open due = omega (arith, from_left 0)
  ends_with_less OemAction told result is_open due = omega arith
  ends_with_less (Alerting alert) told result is_open due = omega (arith, due, behind_left alert.first alert.place result is_open.first is_open.within)

  -- a part whose transmission was due goes on
  goes_on_with_less : (part : Part) (told : Told) → MayCount (Heard told) part → result_after (Heard told) job.event part ≡ None → part_left job (part_after (Heard told) job.event part) < part_left job part
  goes_on_with_less (Acting act) told due none = absurd (cc none)
  goes_on_with_less OemAction told due none = absurd (cc none)
  goes_on_with_less (Alerting alert) told due none = omega (arith, due)

-- An outcome leaves fewer steps.
pub progress_is_less : (r : Running) (told : Told) → IsOpenPart r.work.job.targets r.part → MayCount (Heard told) r.part
    → progress_left (progress (Heard told) r) < part_left r.work.job r.part
progress_is_less r told is_open due = by (result_after (Heard told) r.work.job.event r.part) refl
  where
    by : (o : Option Bool) → result_after (Heard told) r.work.job.event r.part ≡ o → progress_left (progress_by (Heard told) r o) < part_left r.work.job r.part
    by None is = goes_on_with_less r.work.job r.part told due is
    by (Some result) is = ends_with_less r.work.job r.part told result is_open due

-- a part that begins has the steps of its turn before it
part_begun_left : (job : Parts) (sequence stamp : ℕ) (turn : Turn) → part_left job (part_begun job sequence stamp turn) ≡ turn_left job (Some turn)
part_begun_left job sequence stamp (ToAct act) = refl
part_begun_left job sequence stamp ToOemAction = refl
part_begun_left job sequence stamp (ToAlert first place) =
    ap (λ k. 1 + min (target_at job.targets first place).to.retries k - 0 + (length job.targets - (first + place + 1) + oem_left job)) (zero-div (target_at job.targets first place).to.wait)
    ∙ none_waits (target_at job.targets first place).to.retries (length job.targets - (first + place + 1) + oem_left job)
  where
    none_waits : (retries rest : ℕ) → 1 + min retries 0 - 0 + rest ≡ 1 + rest
    none_waits retries rest = omega arith

abbrev left_at : Now → ℕ → ℕ
left_at n records = now_left n.running n.mark records

begins_left : (work : Work) (stamp : ℕ) (turn : Option Turn) (last : Option Bool) (n : Now) (records : ℕ)
    → left_at (begins work stamp turn last n) records ≡ turn_left work.job turn + 18 * (records - mark_behind work.number n.mark)
begins_left work stamp None last n records = omega arith
begins_left work stamp (Some turn) last n records = ap (λ k. k + 18 * (records - mark_behind work.number n.mark)) (part_begun_left work.job n.sequence stamp turn)

counted_left : (told : Told) (stamp : ℕ) (r : Running) (n : Now) (records : ℕ) → IsOpenPart r.work.job.targets r.part → MayCount (Heard told) r.part
    → left_at (counted_now (Heard told) stamp (Some r) n) records < left_at (record n { running = Some r }) records
counted_left told stamp r n records is_open due = by (result_after (Heard told) r.work.job.event r.part) refl
  where
    by : (o : Option Bool) → result_after (Heard told) r.work.job.event r.part ≡ o → left_at (now_with stamp (progress_by (Heard told) r o) n) records < left_at (record n { running = Some r }) records
    by None is = omega (arith, goes_on_with_less r.work.job r.part told due is)
    by (Some result) is =
        omega (arith, begins_left r.work stamp (turn_behind r.work.job r.part result) (Some result) n records, ends_with_less r.work.job r.part told result is_open due)

-- the step that is due had an outcome
pub outcome_leaves_fewer : (told : Told) (v : Values) (r : Running) → v.now.running ≡ Some r → IsOpenPart r.work.job.targets r.part → MayCount (Heard told) r.part → left (with_deed (WasTold told) v) < left v
outcome_leaves_fewer told v r runs is_open due =
    subst (λ o. left (with_deed (WasTold told) (record v { now = record v.now { running = o } })) < length v.replies + now_left o v.now.mark (length v.records)) (sym runs)
    (omega (arith, counted_left told (stamp_at v.ticks) r (record v.now { running = Some r }) (length v.records) is_open due))

-- a reply that was due had one
pub reply_leaves_fewer : (v : Values) → (v.replies ≡ [] → ⊥) → left (with_deed ReplySent v) < left v
reply_leaves_fewer v some = by v.replies refl
  where
    by : (replies : List Step) → v.replies ≡ replies → length (drop 1 replies) + now_left v.now.running v.now.mark (length v.records) < length replies + now_left v.now.running v.now.mark (length v.records)
    by [] is = absurd (some is)
    by (reply ∷ replies) is = omega arith

first_left : (job : Parts) → turn_left job (first_turn job) ≤ 1 + (length job.targets + oem_left job)
first_left job = by job.act
  where
    by : (act : Option Act) → turn_left job (turn_at job (first_stage act)) ≤ 1 + (length job.targets + oem_left job)
    by (Some act) = omega arith
    by None = subst (λ t. turn_left job t ≤ 1 + (length job.targets + oem_left job)) (sym (starts job 0)) (omega (arith, from_left job 0))

one_at_most : (b : Bool) → cond b 1 0 ≤ 1
one_at_most true = omega arith
one_at_most false = omega arith

-- a job has 18 steps at most
module _ (f : Force) (stamp : ℕ) where
  work_is_small : (number : ℕ) (event : List ℕ) (turn : Option Turn) → first_turn (work_of f number event).job ≡ turn → turn_left (work_of f number event).job turn ≤ 18
  work_is_small number event turn is =
      let j = (work_of f number event).job in
      let first : turn_left j turn ≤ 1 + (length j.targets + oem_left j) = subst (λ t. turn_left j t ≤ 1 + (length j.targets + oem_left j)) is (first_left j) in
      omega (arith, first, one_at_most j.oem, all_within f.pef f.lan f.own.ports event)

  begun_is_small : (events : List (List ℕ)) (n : Now) (records : ℕ) → n.running ≡ None → length events ≡ records - n.mark → left_at (begin_jobs_now f stamp events n) records ≤ 18 * length events
  begun_is_small [] n records idle is = omega (arith, is, ap (λ o. now_left o n.mark records) idle)
  begun_is_small (event ∷ events) n records idle is = by (λ n idle is. begun_is_small events n records idle is) (first_turn work.job) refl
    where
      work : Work
      work = work_of f (n.mark + 1) event

      by : ((n : Now) → n.running ≡ None → length events ≡ records - n.mark → left_at (begin_jobs_now f stamp events n) records ≤ 18 * length events)
          → (o : Option Turn) → first_turn work.job ≡ o → left_at (begin_with (begin_jobs_now f stamp events) (n.mark + 1) work stamp o n) records ≤ 18 * length (event ∷ events)
      by others None first = omega (arith, others (record n { mark = n.mark + 1 }) idle (omega (arith, is)))
      by others (Some turn) first = omega (arith, begins_left work stamp (Some turn) None n records, work_is_small (n.mark + 1) event (Some turn) first, is)

pub none_is : (o : Option Running) → is_some o ≡ false → o ≡ None
none_is None is = refl
none_is (Some r) is = absurd (cc is)

pub not_true : (b : Bool) → not b ≡ true → b ≡ false
not_true true is = absurd (cc is)
not_true false is = refl

-- a job that begins takes no more steps than were left
pub begins_within : (v : Values) → left (with_next_job v) ≤ left v
begins_within v = by (not (is_some v.now.running) && may_begin_now v) refl
  where
    by : (b : Bool) → (not (is_some v.now.running) && may_begin_now v) ≡ b → left (cond b (begun v) v) ≤ left v
    by false is = omega arith
    by true is =
        let idle : v.now.running ≡ None = none_is v.now.running (not_true (is_some v.now.running) (and_parts (not (is_some v.now.running)) (may_begin_now v) is).0) in
        let small = begun_is_small (force_of v) (stamp_at v.ticks) (drop v.now.mark v.records) v.now (length v.records) idle (length-drop v.now.mark v.records) in
        let free : now_left v.now.running v.now.mark (length v.records) ≡ 18 * (length v.records - v.now.mark) = ap (λ o. now_left o v.now.mark (length v.records)) idle in
        omega (arith, small, free, length-drop v.now.mark v.records)

-- what is due while nothing runs, and while this part is open
pub none_due : (own : Own) (o : Option Running) → o ≡ None → IsSome (running_step own o) → ⊥
none_due own None is some = cc
none_due own (Some r) is some = cc is

part_hears : (own : Own) (told : Told) (work : Work) (part : Part) → IsSome (part_step own work part) → MayCount (Heard told) part
part_hears own told work (Acting act) some = tt
part_hears own told work OemAction some = tt
part_hears own told work (Alerting alert) some = by (is_due alert.attempt) refl some
  where
    by : (b : Bool) → is_due alert.attempt ≡ b → IsSome (cond b (Some (trap_step own work alert (target_at work.job.targets alert.first alert.place))) None) → IsDue alert.attempt
    by true is some = ltb-true alert.attempt.outcomes (sends alert.attempt.wait alert.attempt.retries alert.attempt.ticks) is
    by false is some = absurd cc

-- where no reply is due, the step that is due is that of what runs; and where none is due at all, none of what runs is
pub of_what_runs : (replies : List Step) (step : Option Step) → replies ≡ [] → IsSome (first_or replies step) → IsSome step
of_what_runs [] step none some = some
of_what_runs (reply ∷ replies) step none some = absurd (cc none)

pub none_of_what_runs : (replies : List Step) (step : Option Step) → first_or replies step ≡ None → step ≡ None
none_of_what_runs [] step none = none
none_of_what_runs (reply ∷ replies) step none = absurd (cc none)

pub no_reply : (replies : List Step) (step : Option Step) → first_or replies step ≡ None → replies ≡ []
no_reply [] step none = refl
no_reply (reply ∷ replies) step none = absurd (cc none)

pub may_hear : (own : Own) (told : Told) (o : Option Running) (r : Running) → o ≡ Some r → IsSome (running_step own o) → MayCount (Heard told) r.part
may_hear own told None r is some = absurd (cc is)
may_hear own told (Some s) r is some = let same : s ≡ r = cc is in subst (λ r. MayCount (Heard told) r.part) same (part_hears own told s.work s.part some)
