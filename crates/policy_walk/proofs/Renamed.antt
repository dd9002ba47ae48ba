-- Of channels and types only counts which stops share them: under other names, different ones for different channels and types, a walk
-- is the same.
use Rattle.std.proofs.Common.{◌≡◌, ℕ, ◌+◌, ◌∙◌, Bool, true, false, not, cond, List, [], ◌∷◌, map, ap, refl, eqb}
use Rattle.std.specs.Prelude.{◌&&◌, ◌||◌}
use Rattle.policy_walk.specs.declared.stop.Stop.{Stop}
use Rattle.policy_walk.specs.Tried.{Wanted, Any, NoStop, OtherChannel, OtherKind, is_wanted, is_tried, wanted_after, passed, tried_on, tried_from, tried}

module _ (f g : ℕ → ℕ) (f_keeps : (a b : ℕ) → eqb (f a) (f b) ≡ eqb a b) (g_keeps : (a b : ℕ) → eqb (g a) (g b) ≡ eqb a b) where
  abbrev renamed : Stop → Stop
  renamed stop = record { policy = stop.policy; channel = f stop.channel; kind = g stop.kind }

  abbrev renamed_wish : Wanted → Wanted
  renamed_wish Any = Any
  renamed_wish NoStop = NoStop
  renamed_wish (OtherChannel channel) = OtherChannel (f channel)
  renamed_wish (OtherKind kind) = OtherKind (g kind)

  same_wanted : (wanted : Wanted) (stop : Stop) → is_wanted (renamed_wish wanted) (renamed stop) ≡ is_wanted wanted stop
  same_wanted Any stop = refl
  same_wanted NoStop stop = refl
  same_wanted (OtherChannel channel) stop = ap not (f_keeps stop.channel channel)
  same_wanted (OtherKind kind) stop = ap not (g_keeps stop.kind kind)

  chosen : (b : Bool) (x y : Wanted) → cond b (renamed_wish x) (renamed_wish y) ≡ renamed_wish (cond b x y)
  chosen true x y = refl
  chosen false x y = refl

  same_after : (stop : Stop) → wanted_after (renamed stop) ≡ renamed_wish (wanted_after stop)
  same_after stop =
      ap (λ w. cond (eqb stop.policy 2) NoStop (cond (eqb stop.policy 3) (OtherChannel (f stop.channel)) w)) (chosen (eqb stop.policy 4) (OtherKind stop.kind) Any)
      ∙ ap (λ w. cond (eqb stop.policy 2) NoStop w) (chosen (eqb stop.policy 3) (OtherChannel stop.channel) (cond (eqb stop.policy 4) (OtherKind stop.kind) Any))
      ∙ chosen (eqb stop.policy 2) NoStop (cond (eqb stop.policy 3) (OtherChannel stop.channel) (cond (eqb stop.policy 4) (OtherKind stop.kind) Any))

  same_passed : (wanted : Wanted) (stop : Stop) → passed (renamed_wish wanted) (renamed stop) ≡ renamed_wish (passed wanted stop)
  same_passed wanted stop =
      ap (λ b. cond b (wanted_after (renamed stop)) (renamed_wish wanted)) (same_wanted wanted stop)
      ∙ ap (λ w. cond (is_wanted wanted stop) w (renamed_wish wanted)) (same_after stop)
      ∙ chosen (is_wanted wanted stop) (wanted_after stop) wanted

  -- the places from one that is attempted on, if those after each result are the same
  same_tried_on : (there here : Bool → List Bool → List ℕ) (results : List Bool) → ((result : Bool) (left : List Bool) → there result left ≡ here result left)
      → tried_on there results ≡ tried_on here results
  same_tried_on there here [] same = refl
  same_tried_on there here (result ∷ left) same = same result left

  same_from : (stops : List Stop) (wanted : Wanted) (succeeded : Bool) (place : ℕ) (results : List Bool)
      → tried_from (renamed_wish wanted) succeeded place (map renamed stops) results ≡ tried_from wanted succeeded place stops results
  same_from [] wanted succeeded place results = refl
  same_from (stop ∷ stops) wanted succeeded place results =
      let there : Bool → List Bool → List ℕ = λ result left. tried_from Any result (place + 1) (map renamed stops) left in
      let here : Bool → List Bool → List ℕ = λ result left. tried_from Any result (place + 1) stops left in
      let passed_there : List ℕ = tried_from (passed (renamed_wish wanted) (renamed stop)) succeeded (place + 1) (map renamed stops) results in
      ap (λ b. cond (b && (eqb stop.policy 0 || not succeeded)) (place ∷ tried_on there results) passed_there) (same_wanted wanted stop)
      ∙ ap (λ places. cond (is_tried wanted succeeded stop) (place ∷ places) passed_there) (same_tried_on there here results (λ result left. same_from stops Any result (place + 1) left))
      ∙ ap (λ places. cond (is_tried wanted succeeded stop) (place ∷ tried_on here results) places)
      (ap (λ w. tried_from w succeeded (place + 1) (map renamed stops) results) (same_passed wanted stop) ∙ same_from stops (passed wanted stop) succeeded (place + 1) results)

  pub same_tried : (stops : List Stop) (results : List Bool) → tried (map renamed stops) results ≡ tried stops results
  same_tried stops results = same_from stops Any false 0 results
