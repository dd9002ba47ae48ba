-- What is found at a gate.
use Rattle.std.specs.Prelude.{◌≡◌, ℕ, ◌+◌, ◌/◌, ◌%◌, ◌<◌, ◌≤◌, List, ◌∷◌, ◌++◌, length, take, drop, ⊤}
use Rattle.pef_journal.specs.Image.{IsShutAt, IsCorruptAt}
use Rattle.pef_journal.specs.declared.gate.Gate.{Gate}
use Rattle.pef_journal.specs.declared.gate.Gate.TheVariants.{Closed, Corrupt, Open}

-- an entry of n octets at this place, and the next gate, lie before this end
abbrev pub LiesWithin : ℕ → ℕ → ℕ → Type 0
LiesWithin gate n end = (1 ≤ n) × (n ≤ 520) × (gate + 3 + n < end)

-- what each answer says of the gate at this place
abbrev pub GateIs : List ℕ → ℕ → Gate → Type 0
GateIs file gate Closed = IsShutAt file gate
GateIs file gate Corrupt = IsCorruptAt file gate
GateIs file gate (Open n) = LiesWithin gate n (length file) × (file ≡ take gate file ++ 165 ∷ (n % 256) ∷ (n / 256) ∷ drop (gate + 3) file)

-- whatever the board tells, an entry behind an open gate ends before this place
abbrev pub EndsBelow : ℕ → ℕ → Gate → Type 0
EndsBelow end gate Closed = ⊤
EndsBelow end gate Corrupt = ⊤
EndsBelow end gate (Open n) = LiesWithin gate n end
