-- The parts of a job.
use Rattle.std.specs.Prelude.{ℕ, ◌≤◌, Bool, List, Option}
use Rattle.board_core.specs.declared.step.Act.{Act}
use Rattle.lan_dest.specs.Usable.{CanBeTried}
use Rattle.pef_match.specs.declared.target.Target.{Target}

-- at most one act, then the alerts, then the OEM action, for one event record; an alert that is asked for by command has none
pub record Parts : Type 0 where
  pub act : Option Act
  pub targets : List Target
  pub oem : Bool
  pub event : Option (List ℕ)

-- what a walk and the attempts take: a policy of 0 to 4, and a destination that attempts take
pub record CanBeSent (target : Target) : Type 0 where
  pub known : target.stop.policy ≤ 4
  pub to : CanBeTried target.to
