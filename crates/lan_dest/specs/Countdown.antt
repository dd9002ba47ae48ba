-- What an attempt keeps, which counts down: the ticks that are left of the wait it is in, and whether a transmission is due.
use Rattle.std.specs.Prelude.{◌≡◌, ℕ, ◌+◌, ◌*◌, ◌<◌, ◌≤◌, Bool, if◌then◌else◌}

-- the transmissions made, and one more where one is due
abbrev pub begun_waits : ℕ → Bool → ℕ
begun_waits outcomes due = outcomes + (if due then 1 else 0)

-- Each transmission begins a wait, and the one it is in ends in `left` ticks. None are left where the last one is over.
pub record CountsDown (wait retries outcomes ticks left : ℕ) (due : Bool) : Type 0 where
  pub some_wait : 1 ≤ wait
  pub short_wait : wait ≤ 256
  pub few : retries ≤ 7
  pub some : 1 ≤ begun_waits outcomes due
  pub within : begun_waits outcomes due ≤ 1 + retries
  pub left_in : left ≤ wait
  pub running : 0 < left → ticks + left ≡ wait * begun_waits outcomes due
  pub over : left ≡ 0 → (begun_waits outcomes due ≡ 1 + retries) × (wait * (1 + retries) ≤ ticks)
