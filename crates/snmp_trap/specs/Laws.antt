-- How the grammar and the refusals stand to each other.
use Rattle.std.specs.Prelude.{◌≡◌, ℕ, List, [], ◌++◌}
use Rattle.snmp_trap.specs.declared.refusal.Why.{Why}
use Rattle.snmp_trap.specs.Grammar.{Seen, IsTrap}
use Rattle.snmp_trap.specs.Refusals.{RefusedTrap}
use Rattle.snmp_trap.specs.Shortest.{AreOctets, Shortest}

-- a trap in one way alone, and not refused
pub record IsOneTrap (octets : List ℕ) : Type 0 where
  pub view : Seen
  pub is_trap : IsTrap octets view
  pub only : (other : Seen) → IsTrap octets other → other ≡ view
  pub not_refused : (why : Why) (at : ℕ) → ¬ (RefusedTrap octets why at)

-- refused in one way alone, and no trap
pub record IsOneRefusal (octets : List ℕ) : Type 0 where
  pub why : Why
  pub at : ℕ
  pub refused : RefusedTrap octets why at
  pub only_why : (other : Why) (place : ℕ) → RefusedTrap octets other place → other ≡ why
  pub only_at : (other : Why) (place : ℕ) → RefusedTrap octets other place → place ≡ at
  pub no_trap : (view : Seen) → ¬ (IsTrap octets view)

-- the octets of a trap are followed by nothing where the whole is a trap too
abbrev pub IsNoPrefix : List ℕ → List ℕ → Type 0
IsNoPrefix octets rest = (v w : Seen) → IsTrap octets v → IsTrap (octets ++ rest) w → rest ≡ []

-- a trap has but one shortest spelling
abbrev pub IsOneSpelling : Seen → Type 0
IsOneSpelling v = (a b : List ℕ) → AreOctets a → AreOctets b → Shortest v a → Shortest v b → a ≡ b
