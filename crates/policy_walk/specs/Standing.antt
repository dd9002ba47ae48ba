-- Where a walk stands.
use Rattle.std.specs.Prelude.{◌≡◌, Bool, List}
use Rattle.policy_walk.specs.declared.stop.Stop.{Stop}
use Rattle.policy_walk.specs.Place.{Standing}
use Rattle.policy_walk.specs.Tried.{place_after}

-- A walk over these stops whose alerts ended so: it stands at the place to be attempted next.
pub record StandsAfter (stops : List Stop) (results : List Bool) (walk : Standing) : Type 0 where
  pub over : walk.stops ≡ stops
  pub place : walk.current ≡ place_after stops results
