-- A file as a list of octets.
use Rattle.std.specs.Prelude.{ℕ, ◌+◌, List, ◌++◌, length, take, drop}

-- the file with these octets at a place
abbrev pub put_at : ℕ → List ℕ → List ℕ → List ℕ
put_at place octets file = take place file ++ octets ++ drop (place + length octets) file
