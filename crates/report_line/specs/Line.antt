-- The parts of a report line. That a report has lines, and how they are written, is this project's own.
use Rattle.std.specs.Prelude.{ℕ, List, [], ◌∷◌, ◌++◌, codes, decimal, slice_index}
use Rattle.board_core.specs.declared.step.Address.{Address}

-- the end of a line
abbrev pub line_end : List ℕ
line_end = 10 ∷ []

-- the four octets of an IPv4 address as decimal numbers with points
abbrev pub ip_text : List ℕ → List ℕ
ip_text ip =
    decimal (slice_index ip 0) ++ codes "." ++ decimal (slice_index ip 1) ++ codes "." ++ decimal (slice_index ip 2) ++ codes "." ++ decimal (slice_index ip 3)

-- an IPv4 address, a colon and the port
abbrev pub address_text : Address → List ℕ
address_text to = ip_text to.ip ++ codes ":" ++ decimal to.port
