-- What a wait for a datagram gives.
use Rattle.std.specs.Prelude.{ℕ, List, Option, Some, None}
use Rattle.board_core.specs.declared.step.Address.{Address}
use Rattle.board_core.specs.declared.feed.Arrival.{Arrival}
use Rattle.board_core.specs.declared.feed.Arrival.TheVariants.{Datagram, Tick}

-- the datagram, or the second that passed without one
abbrev pub arrival_of : Option (Address × List ℕ) → Arrival
arrival_of (Some datagram) = Datagram datagram.0 datagram.1
arrival_of None = Tick
