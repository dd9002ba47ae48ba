-- What a walk knows of an entry of the alert policy table: IPMI 2.0, section 17.11.
use Rattle.std.specs.Prelude.{ℕ, List}
use Rattle.policy_table.specs.Entry.{policy, channel}
use Rattle.policy_walk.specs.declared.stop.Stop.{Stop}

-- the stop of an entry, whose destination has this type
abbrev pub stop_of : List ℕ → ℕ → Stop
stop_of entry kind = record { policy = policy entry; channel = channel entry; kind = kind }
