-- What a feed gives.
use Rattle.std.specs.Prelude.{◌≡◌, ⊤, ℕ, ◌≤◌, Bool, true, false, IsTrue, List, [], ◌∷◌, ◌++◌, Option, Some, None}
use Rattle.board_core.specs.Causes.{Rose}
use Rattle.board_core.specs.declared.feed.Arrival.{Arrival}
use Rattle.board_core.specs.declared.feed.Arrival.TheVariants.{Datagram, Tick, End, Failed}

-- a datagram or a tick: what arrives
abbrev pub is_arrived : Arrival → Bool
is_arrived (Datagram from octets) = true
is_arrived Tick = true
is_arrived End = false
is_arrived Failed = false

abbrev pub IsArrived : Arrival → Type 0
IsArrived arrival = IsTrue (is_arrived arrival)

-- what is still to arrive, what was given, and whether the end was told
pub record Arrivals : Type 0 where
  pub coming : List Arrival
  pub given : List Arrival
  pub ended : Bool

-- A call gives the first of what is still to arrive. It tells the end only where nothing is; a failure changes nothing.
abbrev pub Gives : Option Arrivals → Option Arrivals → Arrival → Type 0
Gives (Some old) (Some new) (Datagram from octets) = (old.coming ≡ Datagram from octets ∷ new.coming) × (new.given ≡ old.given ++ Datagram from octets ∷ []) × (new.ended ≡ old.ended)
Gives (Some old) (Some new) Tick = (old.coming ≡ Tick ∷ new.coming) × (new.given ≡ old.given ++ Tick ∷ []) × (new.ended ≡ old.ended)
Gives (Some old) (Some new) End = (old.coming ≡ []) × (new.coming ≡ []) × (new.given ≡ old.given) × (new.ended ≡ true)
Gives (Some old) (Some new) Failed = new ≡ old
Gives (Some old) None arrival = ⊥
Gives None (Some new) arrival = ⊥
Gives None None arrival = ⊤

-- a count never falls, a call fails only where it rose, and else it is what it was
pub record HasFeedCause (before now : ℕ) (arrival : Arrival) : Type 0 where
  pub later : before ≤ now
  pub failed : arrival ≡ Failed → Rose before now
  pub same : (arrival ≡ Failed → ⊥) → now ≡ before
