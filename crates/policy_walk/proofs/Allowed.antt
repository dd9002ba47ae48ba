-- Which stops are attempted, in the light of how the last alert ended.
use Rattle.std.proofs.Common.{◌≡◌, ℕ, suc, ◌+◌, Bool, true, false, not, ◌||◌, cond, List, [], ◌∷◌, ◌++◌, length, Option, Some, None, refl, sym, ap, ◌∙◌, arith}
use Rattle.std.specs.Prelude.{◌&&◌, ◌==◌, slice_get}
use Rattle.std.proofs.lemmas.Bool.{and_parts}
use Rattle.policy_walk.specs.declared.stop.Stop.{Stop}
use Rattle.policy_walk.specs.Promises.{last_or, MayBeTried}
use Rattle.policy_walk.specs.Tried.{Wanted, Any, is_wanted, is_tried, passed, tried_on, tried_from, place_after}

-- the same of stops from this place on, where the alert before them ended so
record Allowed (succeeded : Bool) (from : ℕ) (stops : List Stop) (results : List Bool) (place : ℕ) : Type 0 where
  pub before : List Stop
  pub stop : Stop
  pub behind : List Stop
  pub parts : stops ≡ before ++ stop ∷ behind
  pub at : place ≡ from + length before
  pub allowed : ((stop.policy == 0) || not (last_or succeeded results)) ≡ true

abbrev AllAllowed : ℕ → List Stop → ℕ → Type 0
AllAllowed from stops place = (wanted : Wanted) (succeeded : Bool) (results : List Bool) → slice_get (tried_from wanted succeeded from stops results) (length results) ≡ Some place
    → Allowed succeeded from stops results place

later : (succeeded : Bool) (from : ℕ) (first : Stop) (stops : List Stop) (results : List Bool) (place : ℕ) → Allowed succeeded (from + 1) stops results place → Allowed succeeded from (first ∷ stops) results place
later succeeded from first stops results place a = record {
  before = first ∷ a.before;
  stop = a.stop;
  behind = a.behind;
  parts = ap (λ xs. first ∷ xs) a.parts;
  at = omega (arith, a.at);
  allowed = a.allowed;
}

allowed : (wanted : Wanted) (succeeded : Bool) (from : ℕ) (stops : List Stop) (results : List Bool) (place : ℕ)
    → slice_get (tried_from wanted succeeded from stops results) (length results) ≡ Some place → Allowed succeeded from stops results place
allowed wanted succeeded from [] results place is = absurd (cc is)
allowed wanted succeeded from (stop ∷ stops) results place is =
    by (λ wanted succeeded results here. allowed wanted succeeded (from + 1) stops results place here) (is_tried wanted succeeded stop) refl is
  where
    attempted : AllAllowed (from + 1) stops place → is_tried wanted succeeded stop ≡ true → (results : List Bool)
        → slice_get (from ∷ tried_on (λ result left. tried_from Any result (from + 1) stops left) results) (length results) ≡ Some place → Allowed succeeded from (stop ∷ stops) results place
    attempted others tried [] here = record {
      before = [];
      stop = stop;
      behind = stops;
      parts = refl;
      at = let same : from ≡ place = cc here in omega (arith, same);
      allowed = (and_parts (is_wanted wanted stop) ((stop.policy == 0) || not succeeded) tried).1;
    }
    attempted others tried (result ∷ left) here =
        let a = others Any result left here in
        record { before = stop ∷ a.before; stop = a.stop; behind = a.behind; parts = ap (λ xs. stop ∷ xs) a.parts; at = omega (arith, a.at); allowed = a.allowed }

    by : AllAllowed (from + 1) stops place → (b : Bool) → is_tried wanted succeeded stop ≡ b
        → slice_get (cond b (from ∷ tried_on (λ result left. tried_from Any result (from + 1) stops left) results) (tried_from (passed wanted stop) succeeded (from + 1) stops results)) (length results) ≡ Some place
        → Allowed succeeded from (stop ∷ stops) results place
    by others true tried here = attempted others tried results here
    by others false tried here = later succeeded from stop stops results place (others (passed wanted stop) succeeded results here)

pub may_be_tried : (stops : List Stop) (results : List Bool) (place : ℕ) → place_after stops results ≡ Some place → MayBeTried stops results place
may_be_tried stops results place is =
    let a = allowed Any false 0 stops results place is in
    record { before = a.before; stop = a.stop; behind = a.behind; parts = a.parts; at = omega (arith, a.at); allowed = a.allowed }
