-- When an alert is sent, and how it ends: LAN parameter 18 of IPMI 2.0, section 23.2, table 23-4. This project's readings are that a
-- failed transmission counts as one of those that may be made, and that an unacknowledged alert succeeds where one of its
-- transmissions went without error.
use Rattle.std.specs.Prelude.{◌≡◌, ℕ, ◌+◌, ◌*◌, ◌/◌, ◌<◌, min, Bool, true, false, ◌||◌, ◌==◌, nat_le, if◌then◌else◌, Option, Some, None}
use Rattle.board_core.specs.declared.step.Told.{Told}
use Rattle.board_core.specs.declared.step.Told.TheVariants.{Done, Failed}

-- An alert to a destination, and what counts of it: the outcomes of its transmissions, whether one of them was done, the ticks since the
-- first outcome, and whether it was acknowledged.
pub record Counted : Type 0 where
  pub acknowledged : Bool
  pub wait : ℕ
  pub retries : ℕ
  pub outcomes : ℕ
  pub done : Bool
  pub ticks : ℕ
  pub acked : Bool

-- how many transmissions are due this many ticks after the first outcome: the first, and a retry after each whole wait
abbrev pub sends : ℕ → ℕ → ℕ → ℕ
sends wait retries ticks = 1 + min retries (ticks / wait)

abbrev pub IsDue : Counted → Type 0
IsDue alert = alert.outcomes < sends alert.wait alert.retries alert.ticks

-- How it ended, nothing while it goes on. To be acknowledged, it succeeds with the acknowledgement, and fails one wait after its last
-- retry; else it ends with the outcome of its last transmission.
abbrev pub verdict : Counted → Option Bool
verdict alert =
    if alert.acknowledged
    then (if alert.acked then Some true
    else (if nat_le (alert.wait * (1 + alert.retries)) alert.ticks then Some false else None))
    else (if alert.outcomes == 1 + alert.retries then Some alert.done else None)

-- it goes on, and nothing is to be sent now
pub record Waits (alert : Counted) : Type 0 where
  pub sent : ¬ IsDue alert
  pub open_still : verdict alert ≡ None

-- an alert that wasn't acknowledged so far
abbrev pub counted : Bool → ℕ → ℕ → ℕ → Bool → ℕ → Counted
counted acknowledged wait retries outcomes done ticks = record {
  acknowledged = acknowledged;
  wait = wait;
  retries = retries;
  outcomes = outcomes;
  done = done;
  ticks = ticks;
  acked = false;
}

-- an alert of which nothing was sent yet
abbrev pub begun : Bool → ℕ → ℕ → Counted
begun acknowledged wait retries = counted acknowledged wait retries 0 false 0

abbrev pub is_done : Told → Bool
is_done Done = true
is_done Failed = false

-- with one outcome more, one tick more, or an acknowledgement, which is nothing to an alert that asks for none
abbrev pub heard : Told → Counted → Counted
heard told alert = record alert { outcomes = alert.outcomes + 1; done = is_done told || alert.done }

abbrev pub ticked : Counted → Counted
ticked alert = record alert { ticks = alert.ticks + 1 }

abbrev pub answered : Counted → Counted
answered alert = record alert { acked = alert.acknowledged || alert.acked }
