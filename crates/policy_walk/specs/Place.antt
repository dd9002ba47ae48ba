-- What a walk shows: its stops, and the place of the one to be attempted now.
use Rattle.std.specs.Prelude.{ℕ, List, Option}
use Rattle.policy_walk.specs.declared.stop.Stop.{Stop}

pub record Standing : Type 0 where
  pub stops : List Stop
  pub current : Option ℕ
