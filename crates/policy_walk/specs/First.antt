-- The next stop, from a place on.
use Rattle.std.specs.Prelude.{ℕ, ◌+◌, Bool, if◌then◌else◌, List, [], ◌∷◌, Option, Some, None}
use Rattle.policy_walk.specs.declared.stop.Stop.{Stop}
use Rattle.policy_walk.specs.Tried.{Wanted, is_tried, passed}

-- the place of the first stop that an alert goes to, from this place on
abbrev pub first_tried : Wanted → Bool → ℕ → List Stop → Option ℕ
first_tried wanted succeeded place [] = None
first_tried wanted succeeded place (stop ∷ stops) =
    if is_tried wanted succeeded stop then Some place else first_tried (passed wanted stop) succeeded (place + 1) stops
