-- What the definition promises of the stops that are attempted: IPMI 2.0, section 17.11.
use Rattle.std.specs.Prelude.{◌≡◌, ℕ, Bool, true, false, not, ◌||◌, ◌==◌, List, [], ◌∷◌, ◌++◌, length}
use Rattle.policy_walk.specs.declared.stop.Stop.{Stop}

-- how the last of these alerts ended, and so where there is none
abbrev pub last_or : Bool → List Bool → Bool
last_or before [] = before
last_or before (result ∷ results) = last_or result results

-- The stop at this place has policy 0, or no alert of its set was attempted yet, or the last one failed.
pub record MayBeTried (stops : List Stop) (results : List Bool) (place : ℕ) : Type 0 where
  pub before : List Stop
  pub stop : Stop
  pub behind : List Stop
  pub parts : stops ≡ before ++ stop ∷ behind
  pub at : place ≡ length before
  pub allowed : ((stop.policy == 0) || not (last_or false results)) ≡ true
