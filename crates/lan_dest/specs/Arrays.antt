-- The arrays that hold the LAN parameters: the community strings of both channels, and the types and the addresses of five destinations
-- of the one channel and five of the other.
use Rattle.std.specs.Prelude.{ℕ, ◌+◌, ◌-◌, ◌*◌, ◌==◌, if◌then◌else◌, List, []}
use Rattle.std.specs.List.{slice_index_or}
use Rattle.lan_dest.specs.Parameters.{Tables, is_place}

abbrev pub index_of : ℕ → ℕ → ℕ
index_of channel selector = 5 * (channel - 1) + selector

abbrev pub tables_of : List (List ℕ) → List (List ℕ) → List (List ℕ) → Tables
tables_of communities kinds addresses = λ place.
    if is_place place
    then (if place.parameter == 16 then slice_index_or communities (place.channel - 1) []
    else (if place.parameter == 18 then slice_index_or kinds (index_of place.channel place.selector) []
    else slice_index_or addresses (index_of place.channel place.selector) []))
    else []
