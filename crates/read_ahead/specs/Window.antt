-- The octets that are kept of a file.
use Rattle.std.specs.Prelude.{◌≡◌, ℕ, ◌+◌, ◌≤◌, List, take, drop}
use Rattle.read_ahead.specs.declared.window.Window.{Window}

-- the octets that are kept
abbrev pub kept_in : Window → List ℕ
kept_in window = take window.count window.octets.items

-- they are those of this file
abbrev pub IsOf : Window → List ℕ → Type 0
IsOf window file = kept_in window ≡ take window.count (drop window.place file)

-- so many are kept, from this place of the file on
pub record IsRange (place count : ℕ) (window : Window) : Type 0 where
  pub place_is : window.place ≡ place
  pub count_is : window.count ≡ count

-- this number of octets, from this place of the file on, is among them
pub record HasRange (window : Window) (place count : ℕ) : Type 0 where
  pub start : window.place ≤ place
  pub end : place + count ≤ window.place + window.count
