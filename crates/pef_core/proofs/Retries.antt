-- Each transmission of an alert is the same datagram.
use Rattle.std.proofs.Common.{◌≡◌, ℕ, ◌+◌, ◌-◌, ◌≤◌, Bool, List, [], ◌∷◌, ◌++◌, Option, Some, None, refl, sym, ◌∙◌, ap, arith}
use Rattle.job_course.specs.declared.counts.Counts.{Counts}
use Rattle.job_course.specs.declared.counts.Counts.TheVariants.{Second, Ack, Heard}
use Rattle.job_course.specs.declared.own.Own.{Own}
use Rattle.job_course.specs.declared.turn.Turn.{Turn}
use Rattle.job_course.specs.declared.turn.Turn.TheVariants.{ToAlert}
use Rattle.job_course.specs.Counting.{all_seconds}
use Rattle.job_course.specs.Undertaking.{Undertaking, Cut, target_at, sequence_behind, turn_at, one_if_alert, result_of, ended_or, joined, cut_by, cut_of, turn_of}
use Rattle.job_course.specs.Steps.{trap_step}
use Rattle.pef_core.specs.Values.{stamp_at, alert_in, work_in}
use Rattle.pef_core.specs.Promises.{with_later, IsSent}

-- alerts that are over stay so
module _ (u : Undertaking) where
  grows_by : (more : Counts) (c : Cut) (o : Option Turn) → c.alerts ≤ (joined u more c o).alerts
  grows_by more c None = omega arith
  grows_by more c (Some turn) = by (result_of u.job (sequence_behind (u.drawn + c.alerts)) turn (more ∷ c.since))
    where
      by : (r : Option Bool) → c.alerts ≤ (ended_or u.job turn r (more ∷ c.since) c).alerts
      by None = omega arith
      by (Some result) = omega arith

  grows : (since later : List Counts) → (cut_by u since).alerts ≤ (cut_by u (later ++ since)).alerts
  grows since [] = omega arith
  grows since (more ∷ later) = omega (arith, grows since later, grows_by more (cut_by u (later ++ since)) (turn_at u.job (cut_by u (later ++ since)).stage))

  -- the cut of an alert that stays open
  pub record Stays (before after : Cut) (seconds : ℕ) : Type 0 where
    pub stage : after.stage ≡ before.stage
    pub alerts : after.alerts ≡ before.alerts
    pub since : all_seconds after.since ≡ all_seconds before.since + seconds

  one_more : (first place : ℕ) (more : Counts) (c : Cut) (o : Option Turn) → o ≡ Some (ToAlert first place) → (joined u more c o).alerts ≡ c.alerts → Stays c (joined u more c o) (all_seconds (more ∷ []))
  one_more first place more c None is same = absurd (cc is)
  one_more first place more c (Some turn) is same = by (result_of u.job (sequence_behind (u.drawn + c.alerts)) turn (more ∷ c.since)) (let t : turn ≡ ToAlert first place = cc is in t) same
    where
      by : (r : Option Bool) → turn ≡ ToAlert first place → (ended_or u.job turn r (more ∷ c.since) c).alerts ≡ c.alerts → Stays c (ended_or u.job turn r (more ∷ c.since) c) (all_seconds (more ∷ []))
      by None it same = record { stage = refl; alerts = refl; since = seconds more }
        where
          seconds : (counts : Counts) → all_seconds (counts ∷ c.since) ≡ all_seconds c.since + all_seconds (counts ∷ [])
          seconds Second = omega arith
          seconds (Ack ack) = omega arith
          seconds (Heard told) = omega arith
      by (Some result) it same = absurd (omega (arith, same, ap (λ t. c.alerts + one_if_alert t) (sym it)))

  stays : (first place : ℕ) (since later : List Counts) → turn_at u.job (cut_by u since).stage ≡ Some (ToAlert first place)
      → (cut_by u (later ++ since)).alerts ≡ (cut_by u since).alerts → Stays (cut_by u since) (cut_by u (later ++ since)) (all_seconds later)
  stays first place since [] is same = record { stage = refl; alerts = refl; since = omega arith }
  stays first place since (more ∷ later) is same =
      let c = cut_by u (later ++ since) in
      let step = grows_by more c (turn_at u.job c.stage) in
      let before : c.alerts ≡ (cut_by u since).alerts = omega (arith, same, step, grows since later) in
      let stayed = stays first place since later is before in
      let its_turn : turn_at u.job c.stage ≡ Some (ToAlert first place) = ap (turn_at u.job) stayed.stage ∙ is in
      let last = one_more first place more c (turn_at u.job c.stage) its_turn (same ∙ sym before) in
      record {
        stage = last.stage ∙ stayed.stage;
        alerts = same;
        since = omega (arith, last.since, stayed.since, seconds_of more later);
      }
    where
      seconds_of : (counts : Counts) (later : List Counts) → all_seconds (counts ∷ later) ≡ all_seconds later + all_seconds (counts ∷ [])
      seconds_of Second later = omega arith
      seconds_of (Ack ack) later = omega arith
      seconds_of (Heard told) later = omega arith

pub is_sent : (own : Own) (now : ℕ) (u : Undertaking) (later : List Counts) (first place : ℕ) → turn_of u ≡ Some (ToAlert first place)
    → (cut_of (with_later later u)).alerts ≡ (cut_of u).alerts → IsSent own now u later first place
is_sent own now u later first place is same =
    let s = stays u first place u.since later is same in
    let target = target_at u.job.targets first place in
    let drawn : sequence_behind (u.drawn + (cut_of (with_later later u)).alerts) ≡ sequence_behind (u.drawn + (cut_of u).alerts) = ap (λ a. sequence_behind (u.drawn + a)) s.alerts in
    let began : now + all_seconds later - all_seconds (cut_of (with_later later u)).since ≡ now - all_seconds (cut_of u).since = omega (arith, s.since) in
    record {
      open_still = ap (turn_at u.job) s.stage ∙ is;
      same =
          ap (λ k. trap_step own (work_in u) (record (alert_in (now + all_seconds later) u (cut_of (with_later later u)) first place) { sequence = k }) target) drawn
          ∙ ap (λ t. trap_step own (work_in u) (record (alert_in (now + all_seconds later) u (cut_of (with_later later u)) first place) { sequence = sequence_behind (u.drawn + (cut_of u).alerts); stamp = stamp_at t }) target) began;
    }
