-- The longest image that a crash may leave, with one octet wherever it may leave any.
use Rattle.std.specs.Prelude.{◌≡◌, ◌⊎◌, ℕ, ◌+◌, ◌<◌, ◌≤◌, max, List, [], ◌∷◌, length, slice_index}
use Rattle.board_core.specs.Moments.{Range}

-- a place in one of these ranges
abbrev pub IsWithin : List Range → ℕ → Type 0
IsWithin [] place = ⊥
IsWithin (range ∷ ranges) place = ((range.place ≤ place) × (place < range.place + range.count)) ⊎ IsWithin ranges place

-- a crash may leave any octet there: it was written since the last sync, or it lies past the end that the file had then
abbrev pub IsTornAt : List ℕ → List Range → ℕ → Type 0
IsTornAt synced written place = (length synced ≤ place) ⊎ IsWithin written place

-- the end of the file or the furthest end of a range
abbrev pub furthest : ℕ → List Range → ℕ
furthest end [] = end
furthest end (range ∷ ranges) = max (range.place + range.count) (furthest end ranges)

-- the greatest length, this octet wherever a crash may leave any, and the last sync's octets elsewhere
pub record IsLongestTorn (octet : ℕ) (synced : List ℕ) (written : List Range) (image : List ℕ) : Type 0 where
  pub size : length image ≡ furthest (length synced) written
  pub torn : (place : ℕ) → place < length image → IsTornAt synced written place → slice_index image place ≡ octet
  pub same : (place : ℕ) → place < length image → (IsTornAt synced written place → ⊥) → slice_index image place ≡ slice_index synced place
