-- What the strings hold.
use Rattle.std.specs.Prelude.{ℕ, List}
use Rattle.alert_strings.specs.declared.strings.Strings.{Strings}

-- the blocks of all strings, one string behind the other
abbrev pub blocks : Strings → List (List ℕ)
blocks strings = strings.blocks

-- the keys of all strings, from string 0 on: the number of a filter and that of a set
abbrev pub keys : Strings → List (ℕ × ℕ)
keys strings = strings.keys
