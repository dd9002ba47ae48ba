-- Whose turn comes behind a part.
use Rattle.std.proofs.Common.{◌≡◌, ℕ, suc, ◌+◌, eqb, take, length-drop, ◌<◌, ◌≤◌, Bool, true, false, cond, nat_lt, List, [], ◌∷◌, ◌++◌, length, map, drop, get_or, Option, Some, None, refl, sym, ◌∙◌, ap, arith}
use Rattle.std.specs.Prelude.{is_some, slice_get, ◌&&◌, ◌||◌, ◌==◌}
use Rattle.std.specs.List.{prefix_len}
use Rattle.std.proofs.lemmas.Bool.{eqb-false, ltb-true, ltb-false}
use Rattle.policy_walk.specs.declared.stop.Stop.{Stop}
use Rattle.policy_walk.specs.First.{first_tried}
use Rattle.policy_walk.specs.Tried.{Any, passed, tried_from, place_after}
use Rattle.policy_walk.proofs.Growing.{place_after-more}
use Rattle.pef_match.specs.declared.target.Target.{Target}
use Rattle.pef_match.specs.Parts.{Parts}
use Rattle.job_course.specs.declared.turn.Turn.{Turn}
use Rattle.job_course.specs.declared.turn.Turn.TheVariants.{ToAct, ToAlert, ToOemAction}
use Rattle.job_course.specs.Undertaking.{Stage, First, InSet, Finished, one_set, set_at, stops_at, turn_in, turn_at, behind_alert, stage_after}
use Rattle.job_course.specs.Turns.{turn_from, turn_or_next}

pub eq_self : (n : ℕ) → eqb n n ≡ true
eq_self n = by (eqb n n) refl
  where
    by : (b : Bool) → eqb n n ≡ b → b ≡ true
    by true is = refl
    by false is = absurd (eqb-false n n is refl)

-- a set has the target that it begins with
abbrev others : Target → List Target → ℕ
others target targets = prefix_len (λ other. other.policy_number == target.policy_number) targets

one_plus : (n : ℕ) → 1 + n ≡ suc n
one_plus n = omega arith

set_front : (target : Target) (targets : List Target) → one_set (target ∷ targets) ≡ target ∷ take (others target targets) targets
set_front target targets = by (target.policy_number == target.policy_number) (eq_self target.policy_number)
  where
    by : (b : Bool) → b ≡ true → take (cond b (1 + others target targets) 0) (target ∷ targets) ≡ target ∷ take (others target targets) targets
    by true is = ap (λ n. take n (target ∷ targets)) (one_plus (others target targets))
    by false is = absurd (cc is)

-- the targets of one policy number in front, by the number of the first
pub one_set_by : (targets : List Target) (first : Target) → first ≡ get_or targets 0 first → 0 < length targets
    → one_set targets ≡ take (prefix_len (λ other. other.policy_number == first.policy_number) targets) targets
one_set_by [] first is some = absurd (omega (arith, some))
one_set_by (target ∷ targets) first is some = ap (λ t. take (prefix_len (λ other. other.policy_number == t.policy_number) (target ∷ targets)) (target ∷ targets)) (sym is)

first_of : (stop : Stop) (stops : List Stop) → place_after (stop ∷ stops) [] ≡ Some 0
first_of stop stops = by (eqb stop.policy 0)
  where
    by : (b : Bool) → slice_get (cond (true && (b || true)) (0 ∷ []) (tried_from (passed Any stop) false 1 stops [])) 0 ≡ Some 0
    by true = refl
    by false = refl

pub set_begins : (targets : List Target) (first : ℕ) → first < length targets → place_after (stops_at targets first) [] ≡ Some 0
set_begins targets first within = by (drop first targets) refl
  where
    by : (rest : List Target) → drop first targets ≡ rest → place_after (stops_at targets first) [] ≡ Some 0
    by [] is = absurd (omega (arith, within, length-drop first targets, ap length is))
    by (target ∷ rest) is =
        ap (λ set. place_after (map (λ t. t.stop) set) []) (ap one_set is ∙ set_front target rest)
        ∙ first_of target.stop (map (λ t. t.stop) (take (others target rest) rest))

no_set : (targets : List Target) (first : ℕ) → length targets ≤ first → place_after (stops_at targets first) [] ≡ None
no_set targets first past = by (drop first targets) refl
  where
    by : (rest : List Target) → drop first targets ≡ rest → place_after (stops_at targets first) [] ≡ None
    by [] is = ap (λ rest. place_after (map (λ t. t.stop) (one_set rest)) []) is
    by (target ∷ rest) is = absurd (omega (arith, past, length-drop first targets, ap length is))

-- where a set begins
pub starts : (job : Parts) (first : ℕ) → turn_at job (InSet first []) ≡ turn_from job first
starts job first = by (nat_lt first (length job.targets)) refl
  where
    by : (b : Bool) → nat_lt first (length job.targets) ≡ b → turn_at job (InSet first []) ≡ cond b (Some (ToAlert first 0)) (turn_in job first None)
    by true is = ap (turn_in job first) (set_begins job.targets first (ltb-true first (length job.targets) is))
    by false is = ap (turn_in job first) (no_set job.targets first (ltb-false first (length job.targets) is))

no_alert : (b : Bool) (first place : ℕ) → cond b (Some ToOemAction) None ≡ Some (ToAlert first place) → ⊥
no_alert true first place is = cc is
no_alert false first place is = cc is

-- where an alert of a set is open
behind : (job : Parts) (first : ℕ) (results : List Bool) (place : ℕ) (result : Bool) → place_after (stops_at job.targets first) results ≡ Some place
    → turn_at job (behind_alert job.targets first (results ++ result ∷ [])) ≡ turn_or_next job first (first_tried Any result (place + 1) (drop (place + 1) (stops_at job.targets first)))
behind job first results place result here = by (place_after (stops_at job.targets first) (results ++ result ∷ [])) refl (place_after-more (stops_at job.targets first) results result place here)
  where
    by : (o : Option ℕ) → place_after (stops_at job.targets first) (results ++ result ∷ []) ≡ o → o ≡ first_tried Any result (place + 1) (drop (place + 1) (stops_at job.targets first))
        → turn_at job (cond (is_some o) (InSet first (results ++ result ∷ [])) (InSet (first + length (set_at job.targets first)) []))
        ≡ turn_or_next job first (first_tried Any result (place + 1) (drop (place + 1) (stops_at job.targets first)))
    by (Some next) is more = ap (turn_in job first) is ∙ ap (turn_or_next job first) more
    by None is more = starts job (first + length (set_at job.targets first)) ∙ ap (turn_or_next job first) more

module _ (job : Parts) (result : Bool) where
  abbrev next : Stage → Turn → Option Turn
  next stage turn = turn_at job (stage_after job turn result stage)

  behind_alert_of : (stage : Stage) (first place : ℕ) → turn_at job stage ≡ Some (ToAlert first place)
      → next stage (ToAlert first place) ≡ turn_or_next job first (first_tried Any result (place + 1) (drop (place + 1) (stops_at job.targets first)))
  behind_alert_of (First act) first place is = absurd (cc is)
  behind_alert_of Finished first place is = absurd (cc is)
  behind_alert_of (InSet begin results) first place is = by (place_after (stops_at job.targets begin) results) refl is
    where
      by : (o : Option ℕ) → place_after (stops_at job.targets begin) results ≡ o → turn_in job begin o ≡ Some (ToAlert first place)
          → next (InSet begin results) (ToAlert first place) ≡ turn_or_next job first (first_tried Any result (place + 1) (drop (place + 1) (stops_at job.targets first)))
      by None none turn = absurd (no_alert job.oem first place turn)
      by (Some p) here turn =
          let same_first : begin ≡ first = cc turn in
          let same_place : p ≡ place = cc turn in
          behind job first results place result (ap (λ f. place_after (stops_at job.targets f) results) (sym same_first) ∙ here ∙ ap Some same_place)

  -- the turn behind a part hangs on the part and its result alone
  abbrev from : Turn → Option Turn
  from (ToAct act) = turn_from job 0
  from (ToAlert first place) = turn_or_next job first (first_tried Any result (place + 1) (drop (place + 1) (stops_at job.targets first)))
  from ToOemAction = None

  pub turn_continues : (stage : Stage) (turn : Turn) → turn_at job stage ≡ Some turn → turn_at job (stage_after job turn result stage) ≡ from turn
  turn_continues stage (ToAct act) is = starts job 0
  turn_continues stage (ToAlert first place) is = behind_alert_of stage first place is
  turn_continues stage ToOemAction is = refl
