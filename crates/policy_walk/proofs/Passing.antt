-- Which stop comes first, where some are passed.
use Rattle.std.proofs.Common.{◌≡◌, ℕ, zero, suc, ◌+◌, Bool, true, false, not, ◌||◌, cond, nat_eq, nat_lt, List, [], ◌∷◌, length, drop, Option, Some, None, refl, sym, ap, ◌∙◌, arith}
use Rattle.std.proofs.lemmas.Bool.{lt-ltb}
use Rattle.std.proofs.lemmas.List.{at_drop_all}
use Rattle.std.specs.Prelude.{◌&&◌}
use Rattle.std.specs.List.{prefix_len}
use Rattle.policy_walk.specs.declared.stop.Stop.{Stop}
use Rattle.policy_walk.specs.Tried.{Wanted, Any, NoStop, OtherChannel, OtherKind, is_wanted, wanted_after}
use Rattle.policy_walk.specs.First.{first_tried}

-- what is wanted after a stop that is passed, by its policy
module _ (stop : Stop) where
  abbrev wanted_by : ℕ → Wanted
  wanted_by policy = wanted_after (record { policy = policy; channel = stop.channel; kind = stop.kind })

  pub wanted_after-2 : stop.policy ≡ 2 → wanted_after stop ≡ NoStop
  wanted_after-2 e = ap wanted_by e

  pub wanted_after-3 : stop.policy ≡ 3 → wanted_after stop ≡ OtherChannel stop.channel
  wanted_after-3 e = ap wanted_by e

  pub wanted_after-4 : stop.policy ≡ 4 → wanted_after stop ≡ OtherKind stop.kind
  wanted_after-4 e = ap wanted_by e

-- after a failure the first stop is the next, where there is one
pub first_after_failure : (place from : ℕ) (stops : List Stop) → cond (nat_lt from (length stops)) (Some place) None ≡ first_tried Any false place (drop from stops)
first_after_failure place from [] = ap (λ is_there. cond is_there (Some place) None) (none from) ∙ sym (at_drop_all (first_tried Any false place) [] from (omega arith))
  where
    none : (n : ℕ) → nat_lt n 0 ≡ false
    none n = grind arith
first_after_failure place (suc n) (stop ∷ stops) =
    ap (λ is_there. cond is_there (Some place) None) (one_less n (length stops)) ∙ first_after_failure place n stops
  where
    one_less : (n k : ℕ) → nat_lt (suc n) (suc k) ≡ nat_lt n k
    one_less n k = grind arith
first_after_failure place zero (stop ∷ stops) =
    ap (λ is_there. cond is_there (Some place) None) (lt-ltb 0 (length (stop ∷ stops)) (omega arith)) ∙ always (nat_eq stop.policy 0) (Some place) _
  where
    always : (zero_policy : Bool) (x y : Option ℕ) → x ≡ cond (zero_policy || true) x y
    always true x y = refl
    always false x y = refl

module _ (succeeded : Bool) where
  -- where no stop is wanted there is none
  pub no_stop : (place : ℕ) (stops : List Stop) → first_tried NoStop succeeded place stops ≡ None
  no_stop place [] = refl
  no_stop place (stop ∷ stops) = no_stop (place + 1) stops

  -- the first stop where the one in front is wanted, or isn't
  abbrev if_wanted : Wanted → ℕ → Stop → List Stop → Bool → Option ℕ
  if_wanted wanted place stop stops here =
      cond (here && (nat_eq stop.policy 0 || not succeeded)) (Some place) (first_tried (cond here (wanted_after stop) wanted) succeeded (place + 1) stops)

  -- The stops of one kind are passed up to the first that isn't of it, which is judged by itself.
  module _ (wanted : Wanted) (same : Stop → Bool) (other : (stop : Stop) → is_wanted wanted stop ≡ not (same stop)) where
    abbrev From : ℕ → List Stop → ℕ → Type 0
    From place stops skipped = first_tried wanted succeeded place stops ≡ first_tried Any succeeded (place + skipped) (drop skipped stops)

    in_front : (place : ℕ) (stop : Stop) (stops : List Stop) (n : ℕ) → From (place + 1) stops n → (is_same : Bool) → is_wanted wanted stop ≡ not is_same → From place (stop ∷ stops) (cond is_same (1 + n) 0)
    in_front place stop stops n later true e =
        ap (if_wanted wanted place stop stops) e ∙ later ∙ ap (λ p. first_tried Any succeeded p (drop n stops)) (one_on place n) ∙ ap (λ k. first_tried Any succeeded (place + (1 + n)) (drop k (stop ∷ stops))) (one_more n)
      where
        one_on : (p n : ℕ) → p + 1 + n ≡ p + (1 + n)
        one_on p n = omega arith

        one_more : (n : ℕ) → suc n ≡ 1 + n
        one_more n = omega arith
    in_front place stop stops n later false e =
        ap (if_wanted wanted place stop stops) e ∙ ap (λ p. first_tried Any succeeded p (stop ∷ stops)) (none_on place)
      where
        none_on : (p : ℕ) → p ≡ p + 0
        none_on p = omega arith

    pub first_of_another : (place : ℕ) (stops : List Stop) → From place stops (prefix_len same stops)
    first_of_another place [] = refl
    first_of_another place (stop ∷ stops) =
        in_front place stop stops (prefix_len same stops) (first_of_another (place + 1) stops) (same stop) (other stop)
