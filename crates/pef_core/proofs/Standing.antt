-- What stands after one more entry, from what stood before it: neither the past nor the course is opened again.
use Rattle.std.proofs.Common.{◌≡◌, ℕ, ◌+◌, ◌-◌, ◌%◌, Bool, true, false, not, eqb, eqb-true, ◌||◌, cond, List, [], ◌∷◌, ◌++◌, drop, Option, Some, None, refl, sym, ◌∙◌, ap, arith}
use Rattle.std.specs.Prelude.{◌&&◌, is_some}
use Rattle.std.proofs.lemmas.Bool.{eqb-false}
use Rattle.alert_trap.specs.Acknowledgement.{ack_awaited}
use Rattle.lan_dest.specs.Attempts.{verdict}
use Rattle.lan_dest.specs.declared.destination.Destination.{Destination}
use Rattle.lan_dest.specs.Parameters as lan
use Rattle.pef_config.proofs.Powered.{value_powered}
use Rattle.pef_config.specs.Places.{Write, our_sizes, value, last_or, written}
use Rattle.pef_match.specs.AtOnce.{at_once}
use Rattle.pef_match.specs.declared.target.Target.{Target}
use Rattle.job_course.specs.declared.counts.Counts.{Counts}
use Rattle.job_course.specs.declared.counts.Counts.TheVariants.{Second, Ack, Heard}
use Rattle.job_course.specs.declared.part.Part.TheVariants.{Alerting}
use Rattle.job_course.specs.declared.turn.Turn.{Turn}
use Rattle.job_course.specs.declared.turn.Turn.TheVariants.{ToAct, ToAlert, ToOemAction}
use Rattle.job_course.specs.declared.work.Work.{Work}
use Rattle.job_course.specs.Counting.{same_ack, one_acks, counted as counted_alert, all_seconds}
use Rattle.job_course.specs.Undertaking.{Undertaking, Stage, InSet, Cut, first_stage, is_running, turn_in, turn_at, stage_after, sequence_behind, alert_at, target_at, result_of, one_if_alert, ended_or, joined, cut_of, turn_of, alerts_open, drawn_with}
use Rattle.job_course.specs.Running.{Running}
use Rattle.job_course.specs.Turns.{turn_behind, first_turn}
use Rattle.job_course.specs.Progress.{attempt_after, part_after, result_after, part_begun, progress_by}
use Rattle.job_course.proofs.TurnOrder.{set_begins, turn_continues}
use Rattle.pef_core.specs.Settings.{initial_of}
use Rattle.pet_body.specs.declared.ack.PetAck.{PetAck}
use Rattle.pef_engine.specs.declared.entry.Entry.{Entry}
use Rattle.pef_core.specs.declared.item.Item.{Item}
use Rattle.pef_core.specs.declared.postpone.Postpone.{Postpone}
use Rattle.pef_core.specs.declared.postpone.Postpone.TheVariants.{Disabled, Seconds}
use Rattle.pef_core.specs.Past.{Effect, Unchanged, SetPef, SetLan, Acked, Armed, Marked, SoftwareMarked, Cleared, Sends, StatusCleared, Deed, Logged, Dropped, Replied, Framed, Passed, Ticked, Powered, WasTold, ReplySent, effect_of, log, pef, pef_written, pef_writes, lan_written, lan_writes, lan_tables, ticks, delay_by, delay_set, seconds_on, delay, armed_in, set_or, timer_set, seconds_armed, less_by, postpone, counts_of}
use Rattle.pef_core.specs.Course.{Course, Force, drawn_by, begun as begun_for, begun_at_once, is_busy, mark_behind, status_behind, gone_on, counted_by, counted, with_effect, moved, begin_jobs, next_job, course}
use Rattle.pef_core.specs.Values.{Now, Values, stamp_at, alert_in, part_in, work_in, running_at, running, now_of, values, force_of}
use Rattle.pef_core.specs.Deeds.{deed, past_behind, past_of, standing}
use Rattle.pef_core.specs.After.{pef_behind, lan_behind, pef_after, lan_after, ticks_after, delay_after, postpone_after, following, sequence_after, begins, now_with, counted_now, moved_by, now_with_effect, work_of, begin_with, begin_jobs_now, begun, with_deed, may_begin_now, with_next_job, values_after}

past_behind-append : (Z : List ℕ) (past : List Deed) (H : List (Entry Item)) (entry : Entry Item)
    → past_behind Z past (H ++ entry ∷ []) ≡ deed (values Z (past_behind Z past H)) entry ∷ past_behind Z past H
past_behind-append Z past [] entry = refl
past_behind-append Z past (first ∷ H) entry = past_behind-append Z (deed (values Z past) first ∷ past) H entry

-- what stands behind writes
value_behind : (Z : List ℕ) (writes earlier : List Write) → value our_sizes (initial_of Z) (writes ++ earlier) ≡ pef_behind writes (value our_sizes (initial_of Z) earlier)
value_behind Z [] earlier = refl
value_behind Z (write ∷ writes) earlier = ap (λ t. λ place. last_or (t place) (written write place)) (value_behind Z writes earlier)

lan_value_behind : (writes earlier : List lan.Write) → lan.value (writes ++ earlier) ≡ lan_behind writes (lan.value earlier)
lan_value_behind [] earlier = refl
lan_value_behind (write ∷ writes) earlier = ap (lan.written write) (lan_value_behind writes earlier)

pef_next : (Z : List ℕ) (d : Deed) (past : List Deed) → pef Z (d ∷ past) ≡ pef_after d (pef Z past)
pef_next Z Powered past = value_powered (initial_of Z) (pef_writes past)
pef_next Z (Replied octets effect) past = value_behind Z (pef_written effect) (pef_writes past)
pef_next Z (Framed replies ack) past = refl
pef_next Z (Logged event) past = refl
pef_next Z (Dropped why) past = refl
pef_next Z Passed past = refl
pef_next Z Ticked past = refl
pef_next Z (WasTold told) past = refl
pef_next Z ReplySent past = refl

lan_next : (d : Deed) (past : List Deed) → lan_tables (d ∷ past) ≡ lan_after d (lan_tables past)
lan_next (Replied octets effect) past = lan_value_behind (lan_written effect) (lan_writes past)
lan_next (Framed replies ack) past = refl
lan_next Powered past = refl
lan_next (Logged event) past = refl
lan_next (Dropped why) past = refl
lan_next Passed past = refl
lan_next Ticked past = refl
lan_next (WasTold told) past = refl
lan_next ReplySent past = refl

-- the seconds, modulo 2 to the power of 32
one_more : (t : ℕ) → (t + 1) % 4294967296 ≡ (t % 4294967296 + 1) % 4294967296
one_more t = omega arith

ticks_next : (d : Deed) (past : List Deed) → ticks (d ∷ past) % 4294967296 ≡ ticks_after d (ticks past % 4294967296)
ticks_next Ticked past = one_more (ticks past)
ticks_next (Logged event) past = refl
ticks_next (Dropped why) past = refl
ticks_next (Replied octets effect) past = refl
ticks_next (Framed replies ack) past = refl
ticks_next Passed past = refl
ticks_next Powered past = refl
ticks_next (WasTold told) past = refl
ticks_next ReplySent past = refl

-- one second less is left
one_off : (set since : ℕ) → set - (since + 1) ≡ set - since - 1
one_off set since = omega arith

none_off : (n : ℕ) → n - 0 ≡ n
none_off n = omega arith

delay_next : (Z : List ℕ) (d : Deed) (past : List Deed) → delay Z (d ∷ past) ≡ delay_after d (pef_after d (pef Z past)) (delay Z past)
delay_next Z Ticked past = one_off (delay_set Z past) (seconds_on past)
delay_next Z Powered past = none_off (delay_by (pef Z (Powered ∷ past))) ∙ ap delay_by (pef_next Z Powered past)
delay_next Z (Logged event) past = refl
delay_next Z (Dropped why) past = refl
delay_next Z (Replied octets effect) past = refl
delay_next Z (Framed replies ack) past = refl
delay_next Z Passed past = refl
delay_next Z (WasTold told) past = refl
delay_next Z ReplySent past = refl

less_by_none : (timer : Postpone) → less_by 0 timer ≡ timer
less_by_none Disabled = refl
less_by_none (Seconds left) = ap Seconds (none_off left)

less_by_one : (since : ℕ) (timer : Postpone) → less_by (since + 1) timer ≡ less_by 1 (less_by since timer)
less_by_one since Disabled = refl
less_by_one since (Seconds left) = ap Seconds (one_off left since)

postpone_next : (d : Deed) (past : List Deed) → postpone (d ∷ past) ≡ postpone_after d (postpone past)
postpone_next Ticked past = less_by_one (seconds_armed past) (timer_set past)
postpone_next Powered past = refl
postpone_next (Replied octets effect) past = by (armed_in effect)
  where
    by : (o : Option Postpone) → less_by (cond (is_some o) 0 (seconds_armed past)) (set_or (timer_set past) o) ≡ set_or (postpone past) o
    by None = refl
    by (Some timer) = less_by_none timer
postpone_next (Framed replies ack) past = refl
postpone_next (Logged event) past = refl
postpone_next (Dropped why) past = refl
postpone_next Passed past = refl
postpone_next (WasTold told) past = refl
postpone_next ReplySent past = refl

stamp_is : (t : ℕ) → stamp_at t ≡ stamp_at (t % 4294967296)
stamp_is t = omega arith

sequence_follows : (k : ℕ) → sequence_behind (k + 1) ≡ following (sequence_behind k)
sequence_follows k = by (eqb (sequence_behind k) 65535) refl
  where
    by : (b : Bool) → eqb (sequence_behind k) 65535 ≡ b → sequence_behind (k + 1) ≡ cond b 1 (sequence_behind k + 1)
    by true is = omega (arith, eqb-true (sequence_behind k) 65535 is)
    by false is = omega (arith, eqb-false (sequence_behind k) 65535 is)

-- one thing more that counts for an alert
counts_more : (to : Destination) (wanted : PetAck) (counts : Counts) (since : List Counts)
    → counted_alert to wanted (counts ∷ since) ≡ attempt_after counts wanted (counted_alert to wanted since)
counts_more to wanted Second since = refl
counts_more to wanted (Heard told) since = refl
counts_more to wanted (Ack ack) since = by (same_ack ack wanted) to.acknowledged (one_acks wanted since) refl
  where
    by : (b a o : Bool) → to.acknowledged ≡ a
        → record (counted_alert to wanted since) { acked = (b || o) && a } ≡ cond b (record (counted_alert to wanted since) { acked = a || (o && a) }) (record (counted_alert to wanted since) { acked = o && a })
    by true true o is = refl
    by true false true is = refl
    by true false false is = refl
    by false a o is = refl

-- the seconds after it
abbrev now_after : Counts → ℕ → ℕ
now_after Second now = now + 1
now_after counts now = now

seconds_grow : (now : ℕ) (counts : Counts) (since : List Counts) → now_after counts now - all_seconds (counts ∷ since) ≡ now - all_seconds since
seconds_grow now Second since = one_each now (all_seconds since)
  where
    one_each : (a b : ℕ) → a + 1 - (b + 1) ≡ a - b
    one_each a b = omega arith
seconds_grow now (Ack ack) since = refl
seconds_grow now (Heard told) since = refl

add_assoc : (a b c : ℕ) → a + (b + c) ≡ a + b + c
add_assoc a b c = omega arith

none_on : (n : ℕ) → n + 0 ≡ n
none_on n = omega arith

-- an undertaking, and how far it came
module _ (u : Undertaking) where
  abbrev work : Work
  work = work_in u

  abbrev runs_at : ℕ → Cut → Option Turn → Option Running
  runs_at now c None = None
  runs_at now c (Some turn) = Some (record { work = work; part = part_in now u c turn })

  -- with the mark and the status before
  abbrev stands_at : ℕ → Cut → Option Turn → ℕ → ℕ → Now
  stands_at now c turn mark status = record {
    running = runs_at now c turn;
    mark = cond (is_some turn) mark (mark_behind u.number mark);
    sequence = sequence_behind (u.drawn + c.alerts + alerts_open turn);
    status = cond (is_some turn) status (status_behind u.number c.last status);
  }

  abbrev with_more : Counts → Cut → Cut
  with_more counts c = record c { since = counts ∷ c.since }

  alert_more : (counts : Counts) (c : Cut) (first place : ℕ)
      → alert_at u.job (sequence_behind (u.drawn + c.alerts)) first place (counts ∷ c.since)
      ≡ attempt_after counts (ack_awaited (sequence_behind (u.drawn + c.alerts)) u.job.event) (alert_at u.job (sequence_behind (u.drawn + c.alerts)) first place c.since)
  alert_more counts c first place = counts_more (target_at u.job.targets first place).to (ack_awaited (sequence_behind (u.drawn + c.alerts)) u.job.event) counts c.since

  -- the part that is open
  part_next : (now : ℕ) (counts : Counts) (c : Cut) (turn : Turn) → part_in (now_after counts now) u (with_more counts c) turn ≡ part_after counts u.job.event (part_in now u c turn)
  part_next now counts c (ToAct act) = refl
  part_next now counts c ToOemAction = refl
  part_next now counts c (ToAlert first place) =
      ap (λ t. Alerting (record (alert_in now u c first place) { stamp = stamp_at t; attempt = alert_at u.job (sequence_behind (u.drawn + c.alerts)) first place (counts ∷ c.since) })) (seconds_grow now counts c.since)
      ∙ ap (λ a. Alerting (record (alert_in now u c first place) { attempt = a })) (alert_more counts c first place)

  result_next : (now : ℕ) (counts : Counts) (c : Cut) (turn : Turn)
      → result_of u.job (sequence_behind (u.drawn + c.alerts)) turn (counts ∷ c.since) ≡ result_after counts u.job.event (part_in now u c turn)
  result_next now (Heard told) c (ToAct act) = refl
  result_next now Second c (ToAct act) = refl
  result_next now (Ack ack) c (ToAct act) = refl
  result_next now (Heard told) c ToOemAction = refl
  result_next now Second c ToOemAction = refl
  result_next now (Ack ack) c ToOemAction = refl
  result_next now counts c (ToAlert first place) = ap verdict (alert_more counts c first place)

  -- a part that begins
  abbrev fresh : Stage → ℕ → Option Bool → Cut
  fresh stage alerts last = record { stage = stage; alerts = alerts; last = last; since = [] }

  part_begins : (now alerts : ℕ) (stage : Stage) (last : Option Bool) (turn : Turn)
      → part_in now u (fresh stage alerts last) turn ≡ part_begun u.job (sequence_behind (u.drawn + alerts)) (stamp_at now) turn
  part_begins now alerts stage last (ToAct act) = refl
  part_begins now alerts stage last ToOemAction = refl
  part_begins now alerts stage last (ToAlert first place) =
      ap (λ t. Alerting (record (alert_in now u (fresh stage alerts last) first place) { stamp = stamp_at t })) (none_off now)

  sequence_next : (k : ℕ) (turn : Turn) → sequence_behind (k + one_if_alert turn) ≡ sequence_after turn (sequence_behind k)
  sequence_next k (ToAct act) = ap sequence_behind (none_on k)
  sequence_next k ToOemAction = ap sequence_behind (none_on k)
  sequence_next k (ToAlert first place) = sequence_follows k

  -- where a part begins, or none
  begins_here : (now alerts : ℕ) (stage : Stage) (last : Option Bool) (turn : Option Turn) (mark status : ℕ) (before : Option Running)
      → stands_at now (fresh stage alerts last) turn mark status
      ≡ begins work (stamp_at now) turn last (record { running = before; mark = mark; sequence = sequence_behind (u.drawn + alerts); status = status })
  begins_here now alerts stage last None mark status before =
      ap (λ k. record { running = None; mark = mark_behind u.number mark; sequence = sequence_behind k; status = status_behind u.number last status }) (none_on (u.drawn + alerts))
  begins_here now alerts stage last (Some turn) mark status before =
      ap (λ p. record { running = Some (record { work = work; part = p }); mark = mark; sequence = sequence_behind (u.drawn + alerts + one_if_alert turn); status = status }) (part_begins now alerts stage last turn)
      ∙ ap (λ k. record { running = Some (record { work = work; part = part_begun u.job (sequence_behind (u.drawn + alerts)) (stamp_at now) turn }); mark = mark; sequence = k; status = status }) (sequence_next (u.drawn + alerts) turn)

  -- the turn behind a part
  turn_next : (now : ℕ) (c : Cut) (turn : Turn) (result : Bool) → turn_at u.job c.stage ≡ Some turn
      → turn_at u.job (stage_after u.job turn result c.stage) ≡ turn_behind u.job (part_in now u c turn) result
  turn_next now c (ToAct act) result is = turn_continues u.job result c.stage (ToAct act) is
  turn_next now c (ToAlert first place) result is = turn_continues u.job result c.stage (ToAlert first place) is
  turn_next now c ToOemAction result is = turn_continues u.job result c.stage ToOemAction is

  -- What counts joins the open part.
  module _ (now : ℕ) (counts : Counts) (c : Cut) (turn : Turn) (is : turn_at u.job c.stage ≡ Some turn) (mark status : ℕ) where
    abbrev then_stands : Cut → Now
    then_stands x = stands_at (now_after counts now) x (turn_at u.job x.stage) mark status

    abbrev stood : Now
    stood = stands_at now c (Some turn) mark status

    abbrev runs : Running
    runs = record { work = work; part = part_in now u c turn }

    with_result : (r : Option Bool) → then_stands (ended_or u.job turn r (counts ∷ c.since) c) ≡ now_with (stamp_at (now_after counts now)) (progress_by counts runs r) stood
    with_result None =
        ap (λ o. stands_at (now_after counts now) (with_more counts c) o mark status) is
        ∙ ap (λ p. record stood { running = Some (record { work = work; part = p }) }) (part_next now counts c turn)
    with_result (Some result) =
        ap (λ o. stands_at (now_after counts now) (fresh (stage_after u.job turn result c.stage) (c.alerts + one_if_alert turn) (Some result)) o mark status) (turn_next now c turn result is)
        ∙ begins_here (now_after counts now) (c.alerts + one_if_alert turn) (stage_after u.job turn result c.stage) (Some result) (turn_behind u.job (part_in now u c turn) result) mark status (Some runs)
        ∙ ap (λ k. begins work (stamp_at (now_after counts now)) (turn_behind u.job (part_in now u c turn) result) (Some result) (record stood { sequence = sequence_behind k })) (add_assoc u.drawn c.alerts (one_if_alert turn))

    joins : then_stands (joined u counts c (Some turn)) ≡ counted_now counts (stamp_at (now_after counts now)) (Some runs) stood
    joins =
        with_result (result_of u.job (sequence_behind (u.drawn + c.alerts)) turn (counts ∷ c.since))
        ∙ ap (λ r. now_with (stamp_at (now_after counts now)) (progress_by counts runs r) stood) (result_next now counts c turn)

-- the latest undertaking
same_running : (now : ℕ) (u : Undertaking) (o : Option Turn) → running_at now u o ≡ runs_at u now (cut_of u) o
same_running now u None = refl
same_running now u (Some turn) = refl

latest_is : (now : ℕ) (u : Undertaking) (us : List Undertaking) (c : Course) → now_of now (gone_on u us c) ≡ stands_at u now (cut_of u) (turn_of u) c.mark c.status
latest_is now u us c =
    ap (λ r. record {
      running = r;
      mark = cond (is_running u) c.mark (mark_behind u.number c.mark);
      sequence = sequence_behind (drawn_with u);
      status = cond (is_running u) c.status (status_behind u.number (cut_of u).last c.status);
    }) (same_running now u (turn_of u))

latest_counts : (now : ℕ) (counts : Counts) (u : Undertaking) (us : List Undertaking) (c : Course) (o : Option Turn) → turn_of u ≡ o
    → now_of (now_after counts now) (counted_by (is_some o) counts u us c)
    ≡ counted_now counts (stamp_at (now_after counts now)) (running_at now u o) (record { running = running_at now u o; mark = c.mark; sequence = sequence_behind (u.drawn + (cut_of u).alerts + alerts_open o); status = c.status })
latest_counts now counts u us c None is =
    ap (λ o. record { running = running_at (now_after counts now) u o; mark = c.mark; sequence = sequence_behind (u.drawn + (cut_of u).alerts + alerts_open o); status = c.status }) is
latest_counts now counts u us c (Some turn) is =
    latest_is (now_after counts now) (record u { since = counts ∷ u.since }) us c
    ∙ ap (λ o. then_stands u now counts (cut_of u) turn is c.mark c.status (joined u counts (cut_of u) o)) is
    ∙ joins u now counts (cut_of u) turn is c.mark c.status

counts_now : (now : ℕ) (counts : Counts) (us : List Undertaking) (c : Course) → c.undertakings ≡ us
    → now_of (now_after counts now) (counted counts us c) ≡ counted_now counts (stamp_at (now_after counts now)) (running now us) (now_of now (record c { undertakings = us }))
counts_now now counts [] c is = refl
counts_now now counts (u ∷ us) c is = latest_counts now counts u us c (turn_of u) refl

-- what a command does to the course
pub target_turn : (target : Target) (guid : List ℕ) (drawn : ℕ) → turn_of (begun_at_once target guid drawn) ≡ Some (ToAlert 0 0)
target_turn target guid drawn = ap (turn_in (at_once target) 0) (set_begins (target ∷ []) 0 (omega arith))

effect_now : (now : ℕ) (effect : Effect) (records : List (List ℕ)) (c : Course)
    → now_of now (with_effect effect records c) ≡ now_with_effect effect (stamp_at now) records (now_of now c)
effect_now now Unchanged records c = refl
effect_now now (SetPef write) records c = refl
effect_now now (SetLan write) records c = refl
effect_now now (Acked ack) records c = refl
effect_now now (Armed timer) records c = refl
effect_now now (Marked id) records c = refl
effect_now now (SoftwareMarked id) records c = refl
effect_now now Cleared records c = refl
effect_now now StatusCleared records c = refl
effect_now now (Sends target guid) records c =
    let u = begun_at_once target guid (drawn_by c.undertakings) in
    ap (λ o. record { running = running_at now u o; mark = c.mark; sequence = sequence_behind (u.drawn + 0 + alerts_open o); status = 0xFF }) (target_turn target guid u.drawn)
    ∙ begins_here u now 0 (InSet 0 []) None (Some (ToAlert 0 0)) c.mark 0xFF (running now c.undertakings)
    ∙ ap (λ k. begins (work_in u) (stamp_at now) (Some (ToAlert 0 0)) None (record (now_of now c) { sequence = sequence_behind k; status = 0xFF })) (none_on u.drawn)

-- what a deed counts for, and the seconds behind it
module _ (past : List Deed) (c : Course) where
  abbrev t : ℕ
  t = ticks past

  abbrev moved_now : Deed → Now
  moved_now d = moved_by (counts_of d) (stamp_at (ticks (d ∷ past))) (now_with_effect (effect_of d) (stamp_at t) (log past) (now_of t c))

  now_next : (d : Deed) → now_of (ticks (d ∷ past)) (moved d (log past) c) ≡ moved_now d
  now_next (Logged event) = refl
  now_next (Dropped why) = refl
  now_next (Replied octets effect) = by effect
    where
      by : (effect : Effect) → now_of t (moved (Replied octets effect) (log past) c) ≡ moved_now (Replied octets effect)
      by (Acked ack) = counts_now t (Ack ack) c.undertakings c refl
      by Unchanged = refl
      by (SetPef write) = refl
      by (SetLan write) = refl
      by (Armed timer) = refl
      by (Marked id) = refl
      by (SoftwareMarked id) = refl
      by Cleared = refl
      by (Sends target guid) = effect_now t (Sends target guid) (log past) c
      by StatusCleared = refl
  now_next (Framed replies None) = refl
  now_next (Framed replies (Some ack)) = counts_now t (Ack ack) c.undertakings c refl
  now_next Passed = refl
  now_next Powered = refl
  now_next Ticked = counts_now t Second c.undertakings c refl
  now_next (WasTold told) = counts_now t (Heard told) c.undertakings c refl
  now_next ReplySent = refl

-- whether anything runs
pub busy_is : (now : ℕ) (us : List Undertaking) → is_busy us ≡ is_some (running now us)
busy_is now [] = refl
busy_is now (u ∷ us) = by (turn_of u)
  where
    by : (o : Option Turn) → is_some o ≡ is_some (running_at now u o)
    by None = refl
    by (Some turn) = refl

idle_is : (now : ℕ) (us : List Undertaking) → is_busy us ≡ false → running now us ≡ None
idle_is now [] idle = refl
idle_is now (u ∷ us) idle = by (turn_of u) idle
  where
    by : (o : Option Turn) → is_some o ≡ false → running_at now u o ≡ None
    by None no_turn = refl
    by (Some turn) no_turn = absurd (cc no_turn)

-- the jobs that begin
begins_now : (now : ℕ) (f : Force) (events : List (List ℕ)) (c : Course) → is_busy c.undertakings ≡ false
    → now_of now (begin_jobs f events c) ≡ begin_jobs_now f (stamp_at now) events (now_of now c)
begins_now now f [] c idle = refl
begins_now now f (event ∷ events) c idle = by (λ c idle. begins_now now f events c idle) (first_turn u.job) refl
  where
    u : Undertaking
    u = begun_for f (c.mark + 1) event (drawn_by c.undertakings)

    later : Course
    later = record c { undertakings = u ∷ c.undertakings; mark = c.mark + 1 }

    w : Work
    w = work_of f (c.mark + 1) event

    drawn_is : drawn_by c.undertakings + 0 ≡ drawn_by c.undertakings
    drawn_is = none_on (drawn_by c.undertakings)

    none_before : running now c.undertakings ≡ None
    none_before = idle_is now c.undertakings idle

    by : ((c : Course) → is_busy c.undertakings ≡ false → now_of now (begin_jobs f events c) ≡ begin_jobs_now f (stamp_at now) events (now_of now c))
        → (o : Option Turn) → first_turn u.job ≡ o
        → now_of now (cond (is_some o) (record c { undertakings = u ∷ c.undertakings }) (begin_jobs f events later))
        ≡ begin_with (begin_jobs_now f (stamp_at now) events) (c.mark + 1) w (stamp_at now) o (now_of now c)
    by others None is = others later (ap is_some is) ∙ ap (begin_jobs_now f (stamp_at now) events) (
        ap (λ o. record { running = running_at now u o; mark = c.mark + 1; sequence = sequence_behind (drawn_by c.undertakings + 0 + alerts_open o); status = c.status }) is
        ∙ ap (λ k. record { running = None; mark = c.mark + 1; sequence = sequence_behind k; status = c.status }) (none_on (drawn_by c.undertakings + 0) ∙ drawn_is)
        ∙ ap (λ r. record { running = r; mark = c.mark + 1; sequence = sequence_behind (drawn_by c.undertakings); status = c.status }) (sym none_before))
    by others (Some turn) is =
        ap (λ o. record { running = running_at now u o; mark = c.mark; sequence = sequence_behind (drawn_by c.undertakings + 0 + alerts_open o); status = c.status }) is
        ∙ begins_here u now 0 (first_stage u.job.act) None (Some turn) c.mark c.status (running now c.undertakings)
        ∙ ap (λ k. begins w (stamp_at now) (Some turn) None (record (now_of now c) { sequence = sequence_behind k })) drawn_is

abbrev with_now : Values → Now → Values
with_now v now = record v { now = now }

-- where a course stands, with the job that begins
next_begins : (now : ℕ) (v : Values) (c : Course) → v.now ≡ now_of now c → stamp_at v.ticks ≡ stamp_at now
    → with_now v (now_of now (next_job (force_of v) (may_begin_now v) v.records c)) ≡ with_next_job v
next_begins now v c is stamp = by (is_busy c.undertakings) refl (may_begin_now v) ∙ ap (λ b. cond (not b && may_begin_now v) (begun v) v) busy
  where
    busy : is_busy c.undertakings ≡ is_some v.now.running
    busy = busy_is now c.undertakings ∙ ap (λ n. is_some n.running) (sym is)

    same : with_now v (now_of now c) ≡ v
    same = ap (with_now v) (sym is)

    all : is_busy c.undertakings ≡ false → with_now v (now_of now (begin_jobs (force_of v) (drop c.mark v.records) c)) ≡ begun v
    all idle = ap (with_now v) (begins_now now (force_of v) (drop c.mark v.records) c idle
        ∙ ap (λ n. begin_jobs_now (force_of v) (stamp_at now) (drop n.mark v.records) n) (sym is)
        ∙ ap (λ s. begin_jobs_now (force_of v) s (drop v.now.mark v.records) v.now) (sym stamp))

    by : (b : Bool) → is_busy c.undertakings ≡ b → (may : Bool)
        → with_now v (now_of now (cond (not b && may) (begin_jobs (force_of v) (drop c.mark v.records) c) c)) ≡ cond (not b && may) (begun v) v
    by true is_so may = same
    by false is_so true = all is_so
    by false is_so false = same

values_next : (Z : List ℕ) (d : Deed) (past : List Deed) → values Z (d ∷ past) ≡ values_after d (values Z past)
values_next Z d past = next_begins (ticks (d ∷ past)) moved_values (moved d (log past) (course Z past)) refl (sym (stamp_is (ticks (d ∷ past)))) ∙ ap with_next_job moved_is
  where
    moved_values : Values
    moved_values = record (values Z (d ∷ past)) { now = now_of (ticks (d ∷ past)) (moved d (log past) (course Z past)) }

    moves : now_of (ticks (d ∷ past)) (moved d (log past) (course Z past))
        ≡ moved_by (counts_of d) (stamp_at (ticks_after d (ticks past % 4294967296))) (now_with_effect (effect_of d) (stamp_at (ticks past % 4294967296)) (log past) (now_of (ticks past) (course Z past)))
    moves =
        now_next past (course Z past) d
        ∙ ap (λ s. moved_by (counts_of d) s (now_with_effect (effect_of d) (stamp_at (ticks past)) (log past) (now_of (ticks past) (course Z past)))) (stamp_is (ticks (d ∷ past)) ∙ ap stamp_at (ticks_next d past))
        ∙ ap (λ s. moved_by (counts_of d) (stamp_at (ticks_after d (ticks past % 4294967296))) (now_with_effect (effect_of d) s (log past) (now_of (ticks past) (course Z past)))) (stamp_is (ticks past))

    moved_is : moved_values ≡ with_deed d (values Z past)
    moved_is =
        let a = pef_next Z d past in
        let b = lan_next d past in
        let e = delay_next Z d past in
        let f = postpone_next d past in
        let g = ticks_next d past in
        let h = moves in
        cc

-- The law of one step: what stands after a history with one more entry.
pub standing_next : (Z : List ℕ) (H : List (Entry Item)) (entry : Entry Item)
    → standing Z (H ++ entry ∷ []) ≡ values_after (deed (standing Z H) entry) (standing Z H)
standing_next Z H entry = ap (values Z) (past_behind-append Z [] H entry) ∙ values_next Z (deed (standing Z H) entry) (past_of Z H)
