-- Lines, and what is left of a file to which they are appended.
use Rattle.std.specs.Prelude.{◌≡◌, ◌⊎◌, ℕ, Bool, List, [], ◌∷◌, ◌++◌, if◌then◌else◌}

-- a text and its end, 0Ah
abbrev pub IsLine : List ℕ → Type 0
IsLine octets = (text : List ℕ) × (octets ≡ text ++ 10 ∷ [])

-- nothing is there, or a line's end is last
abbrev pub EndsWhole : List ℕ → Type 0
EndsWhole octets = (octets ≡ []) ⊎ IsLine octets

-- the line, or behind what is cut off a line's end and the line
abbrev pub begun : Bool → List ℕ → List ℕ
begun cut line = if cut then 10 ∷ line else line
