use Rattle.std.proofs.Common.{◌≡◌, ℕ, eqb, take}
use Rattle.std.specs.Int.{bit_at}
use Rattle.pef_match.specs.Job.{asked_by, has_bit}
use Rattle.pef_match.proofs.asked.asked_by.Given as goal

-- the bits so far are those that the filters so far ask for
abbrev pub invariant-loop-filter : goal.invariant-loop-filter
invariant-loop-filter l = (n : ℕ) → eqb (bit_at l.asked n) 1 ≡ has_bit (asked_by (take l.filter-index l.filters) l.mask l.event) n
