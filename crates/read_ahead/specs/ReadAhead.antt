-- What a board that reads ahead knows without a call.
use Rattle.std.specs.Prelude.{ℕ, IsSome}
use Rattle.read_ahead.specs.Window.{HasRange}
use Rattle.read_ahead.specs.declared.read_ahead.ReadAhead.{ReadAhead}

-- the length of the file
abbrev pub KnowsEnd : {B : Type 0} {b : _} → ReadAhead B b → Type 0
KnowsEnd ahead = IsSome ahead.end

-- this number of octets, from this place of the file on
abbrev pub Keeps : {B : Type 0} {b : _} → ReadAhead B b → ℕ → ℕ → Type 0
Keeps ahead place count = HasRange ahead.window place count
