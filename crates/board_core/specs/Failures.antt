-- The calls of an object in memory that are to fail.
use Rattle.std.specs.Prelude.{◌≡◌, ◌⊎◌, ℕ, ◌+◌, ◌-◌, ◌^◌, ◌<◌, ◌≤◌, min, Contains}
use Rattle.board_core.specs.Causes.{Rose}
use Rattle.board_core.specs.declared.failures.Failures.{Failures}

-- the next call is one that is to fail
abbrev pub FailsNext : Failures → Type 0
FailsNext failures = Contains failures.listed.items failures.next

-- a count of one more, which stands still at its end
abbrev pub one_more : ℕ → ℕ
one_more count = min (count + 1) (2 ^ 64 - 1)

-- one more call was made, and the list is the same
pub record CountsOne (old new : Failures) : Type 0 where
  pub listed : new.listed.items ≡ old.listed.items
  pub next : new.next ≡ one_more old.next

-- A call fails exactly where it is listed or the count of calls that found no memory rose in it.
-- A count that stands at its end may stand for a rise.
pub record FailsExactly (listed : Type 0) (before now : ℕ) (fails : Type 0) : Type 0 where
  pub later : before ≤ now
  pub where_listed : listed → fails
  pub where_starved : before < now → fails
  pub nowhere_else : fails → listed ⊎ Rose before now

-- no call was made
pub record IsSameList (old new : Failures) : Type 0 where
  pub listed : new.listed.items ≡ old.listed.items
  pub next : new.next ≡ old.next
