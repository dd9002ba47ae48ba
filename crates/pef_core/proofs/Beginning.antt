-- One turn of the loop that begins jobs.
use Rattle.std.proofs.Common.{◌≡◌, ℕ, ◌+◌, ◌<◌, ◌≤◌, ◌⊎◌, inl, inr, true, false, List, ◌∷◌, drop, length, Some, None, sym, ◌∙◌, ap, get_or, refl, Option}
use Rattle.std.specs.Prelude.{not, ◌&&◌, is_some, slice_get}
use Rattle.std.proofs.lemmas.List.{at_drop_more, at_drop_all}
use Rattle.std.proofs.lemmas.Bool.{cond-true}
use Rattle.std.proofs.lemmas.Option.{slice_get_within, get_or_from_slice_get, slice_get_cases}
use Rattle.job_course.specs.declared.turn.Turn.{Turn}
use Rattle.job_course.specs.declared.work.Work.{Work}
use Rattle.job_course.specs.Turns.{first_turn}
use Rattle.pef_core.specs.declared.controller.Controller.{Controller}
use Rattle.pef_core.specs.Values.{Now, Values, stamp_at, force_of}
use Rattle.pef_core.specs.After.{work_of, begins, begin_with, begin_jobs_now, begun, may_begin_now, with_next_job}
use Rattle.pef_core.specs.View.{shown}

abbrev with_now : Values → Now → Values
with_now v now = record v { now = now }

-- what is to be begun for a record of a controller
abbrev work_for : Controller → List ℕ → Work
work_for c event = work_of (force_of (shown c)) (c.mark + 1) event

-- the record behind the mark, for which this is to be begun
pub record Waits (c : Controller) (w : Work) : Type 0 where
  pub event : List ℕ
  pub there : slice_get c.log c.mark ≡ Some event
  pub is : w ≡ work_for c event

pub waits : (c : Controller) (o : Option (List ℕ)) (event : List ℕ) (w : Work) → o ≡ slice_get c.log c.mark → o ≡ Some event → w ≡ work_for c event → Waits c w
waits c o event w is some begun_is = record { event = event; there = sym is ∙ some; is = begun_is }

module _ (c : Controller) (w : Work) (waiting : Waits c w) where
  abbrev later : Now → Now
  later = begin_jobs_now (force_of (shown c)) (stamp_at c.ticks) (drop (c.mark + 1) c.log)

  turn : begun (shown c) ≡ with_now (shown c) (begin_with later (c.mark + 1) w (stamp_at c.ticks) (first_turn w.job) (shown c).now)
  turn = ap (with_now (shown c)) (
      at_drop_more (λ events. begin_jobs_now (force_of (shown c)) (stamp_at c.ticks) events (shown c).now) c.log c.mark waiting.event (slice_get_within c.log c.mark waiting.event waiting.there)
      ∙ ap (λ x. begin_jobs_now (force_of (shown c)) (stamp_at c.ticks) (x ∷ drop (c.mark + 1) c.log) (shown c).now) (get_or_from_slice_get c.log c.mark waiting.event waiting.event waiting.there)
      ∙ ap (λ x. begin_with later (c.mark + 1) x (stamp_at c.ticks) (first_turn x.job) (shown c).now) (sym waiting.is))

  pub is_within : c.mark < length c.log
  is_within = slice_get_within c.log c.mark waiting.event waiting.there

  -- nothing is to be done for the record
  pub passes : first_turn w.job ≡ None → begun (shown (record c { mark = c.mark + 1 })) ≡ begun (shown c)
  passes none = sym (turn ∙ ap (λ o. with_now (shown c) (begin_with later (c.mark + 1) w (stamp_at c.ticks) o (shown c).now)) none)

  -- its job runs
  pub begins_then : (o : Option Turn) (some : is_some o ≡ true) → first_turn w.job ≡ o → with_now (shown c) (begins w (stamp_at c.ticks) o None (shown c).now) ≡ begun (shown c)
  begins_then None some first = absurd (cc some)
  begins_then (Some t) some first = sym (turn ∙ ap (λ o. with_now (shown c) (begin_with later (c.mark + 1) w (stamp_at c.ticks) o (shown c).now)) first)

-- no record is left
pub ends : (c : Controller) → slice_get c.log c.mark ≡ None → shown c ≡ begun (shown c)
ends c none =
    sym (ap (with_now (shown c)) (at_drop_all (λ events. begin_jobs_now (force_of (shown c)) (stamp_at c.ticks) events (shown c).now) c.log c.mark (past_end (slice_get_cases c.log c.mark).1)))
  where
    past_end : ((x : List ℕ) × (c.mark < length c.log) × (slice_get c.log c.mark ≡ Some x) × (get_or c.log c.mark x ≡ x)) ⊎ ((length c.log ≤ c.mark) × (slice_get c.log c.mark ≡ None)) → length c.log ≤ c.mark
    past_end (inr past) = past.0
    past_end (inl found) = let some = sym found.2 ∙ none in absurd (cc some)

-- a job may begin
pub next_is_begun : (v : Values) → is_some v.now.running ≡ false → may_begin_now v ≡ true → begun v ≡ with_next_job v
next_is_begun v idle enabled =
    let may : (not (is_some v.now.running) && may_begin_now v) ≡ true = ap (λ b. not b && may_begin_now v) idle ∙ enabled in
    sym (cond-true (not (is_some v.now.running) && may_begin_now v) (begun v) v may)

pub none_if : (turn : Option Turn) → is_some turn ≡ false → turn ≡ None
none_if None none = refl
none_if (Some turn) none = absurd (cc none)
