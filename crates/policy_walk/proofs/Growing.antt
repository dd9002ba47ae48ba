-- One more result: the place that comes then hangs on the last place and on the result alone.
use Rattle.std.proofs.Common.{◌≡◌, ℕ, suc, ◌+◌, ◌-◌, ◌≤◌, Bool, true, false, cond, List, [], ◌∷◌, ◌++◌, length, drop, Option, Some, refl, ap, ◌∙◌, arith}
use Rattle.std.proofs.lemmas.List.{length_push}
use Rattle.std.specs.Prelude.{slice_get}
use Rattle.policy_walk.specs.declared.stop.Stop.{Stop}
use Rattle.policy_walk.specs.Tried.{Wanted, Any, is_tried, passed, tried_on, tried_from, tried, place_after}
use Rattle.policy_walk.specs.First.{first_tried}

-- the first place attempted is the same whatever the results
pub first_is : (wanted : Wanted) (succeeded : Bool) (place : ℕ) (stops : List Stop) (results : List Bool) → slice_get (tried_from wanted succeeded place stops results) 0 ≡ first_tried wanted succeeded place stops
first_is wanted succeeded place [] results = refl
first_is wanted succeeded place (stop ∷ stops) results = first_here (is_tried wanted succeeded stop) _ _ _ (first_is (passed wanted stop) succeeded (place + 1) stops results)
  where
    first_here : (b : Bool) (x y : List ℕ) (z : Option ℕ) → slice_get y 0 ≡ z → slice_get (cond b (place ∷ x) y) 0 ≡ cond b (Some place) z
    first_here true x y z e = refl
    first_here false x y z e = e

-- The next place after this one, in a list of attempts over these stops from `from` on.
pub record Follows (result : Bool) (from : ℕ) (stops : List Stop) (place : ℕ) (next : Option ℕ) : Type 0 where
  pub from_here : from ≤ place
  pub is_first : next ≡ first_tried Any result (place + 1) (drop (place + 1 - from) stops)

module _ (result : Bool) (stop : Stop) (stops : List Stop) where
  behind_first : (from place : ℕ) (next : Option ℕ) → from ≡ place → next ≡ first_tried Any result (from + 1) stops → Follows result from (stop ∷ stops) place next
  behind_first from place next e first = record {
    from_here = omega arith;
    is_first = first ∙ ap (λ p. first_tried Any result (p + 1) stops) e ∙ ap (λ k. first_tried Any result (place + 1) (drop k (stop ∷ stops))) (one from place e);
  }
    where
      one : (from place : ℕ) → from ≡ place → 1 ≡ place + 1 - from
      one from place e = omega arith

  behind_later : (from place : ℕ) (next : Option ℕ) → Follows result (from + 1) stops place next → Follows result from (stop ∷ stops) place next
  behind_later from place next later = record {
    from_here = omega (arith, later.from_here);
    is_first = later.is_first ∙ ap (λ k. first_tried Any result (place + 1) (drop k (stop ∷ stops))) (one_more from place later.from_here);
  }
    where
      one_more : (from place : ℕ) → from + 1 ≤ place → suc (place + 1 - (from + 1)) ≡ place + 1 - from
      one_more from place l = omega arith

-- Where the list stands at this place, one more result makes it go on behind it.
abbrev Grows : (List Bool → List ℕ) → Bool → ℕ → List Stop → List Bool → Type 0
Grows places result from stops results =
    (place : ℕ) → slice_get (places results) (length results) ≡ Some place
    → Follows result from stops place (slice_get (places (results ++ result ∷ [])) (suc (length results)))

module _ (result : Bool) (stop : Stop) (stops : List Stop) (from : ℕ) (go_on : Bool → List Bool → List ℕ) where
  attempted : ((r : Bool) → slice_get (go_on r []) 0 ≡ first_tried Any r (from + 1) stops) → ((r : Bool) (left : List Bool) → Grows (go_on r) result (from + 1) stops left)
      → (results : List Bool) → Grows (λ rs. from ∷ tried_on go_on rs) result from (stop ∷ stops) results
  attempted first later [] = λ place here. behind_first result stop stops from place _ (cc) (first result)
  attempted first later (r ∷ left) = λ place here. behind_later result stop stops from place _ (later r left place here)

pub grows : (wanted : Wanted) (succeeded : Bool) (result : Bool) (from : ℕ) (stops : List Stop) (results : List Bool) → Grows (tried_from wanted succeeded from stops) result from stops results
grows wanted succeeded result from [] results = λ place here. absurd (cc)
grows wanted succeeded result from (stop ∷ stops) results =
    either (is_tried wanted succeeded stop)
    (λ rs. from ∷ tried_on (λ r left. tried_from Any r (from + 1) stops left) rs)
    (λ rs. tried_from (passed wanted stop) succeeded (from + 1) stops rs)
    (attempted result stop stops from (λ r left. tried_from Any r (from + 1) stops left) (λ r. first_is Any r (from + 1) stops []) (λ r left. grows Any r result (from + 1) stops left) results)
    (λ place here. behind_later result stop stops from place _ (grows (passed wanted stop) succeeded result (from + 1) stops results place here))
  where
    either : (b : Bool) (xs ys : List Bool → List ℕ) → Grows xs result from (stop ∷ stops) results → Grows ys result from (stop ∷ stops) results → Grows (λ rs. cond b (xs rs) (ys rs)) result from (stop ∷ stops) results
    either true xs ys p q = p
    either false xs ys p q = q

-- One more result: the place that comes hangs on the place before and on the result alone.
pub place_after-more : (stops : List Stop) (results : List Bool) (result : Bool) (place : ℕ) → place_after stops results ≡ Some place
    → place_after stops (results ++ result ∷ []) ≡ first_tried Any result (place + 1) (drop (place + 1) stops)
place_after-more stops results result place here =
    ap (slice_get (tried stops (results ++ result ∷ []))) (length_push results result ∙ one_more (length results))
    ∙ (grows Any false result 0 stops results place here).is_first
    ∙ ap (λ k. first_tried Any result (place + 1) (drop k stops)) (whole (place + 1))
  where
    one_more : (n : ℕ) → n + 1 ≡ suc n
    one_more n = omega arith

    whole : (n : ℕ) → n - 0 ≡ n
    whole n = omega arith
