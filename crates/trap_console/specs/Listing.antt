-- The lines of `list`: one for each row, in the order in which the rows arrived. Their form is this project's own.
use Rattle.std.specs.Prelude.{ℕ, ◌+◌, Bool, ◌&&◌, nat_le, nat_lt, List, [], ◌∷◌, ◌++◌, length, take, drop, if◌then◌else◌, codes, decimal}
use Rattle.std.specs.List.{list_all}
use Rattle.hex.specs.Hex.{encode_lower}
use Rattle.report_line.specs.Line.{line_end, address_text}
use Rattle.pet_body.specs.declared.body.Body.{Body}
use Rattle.pet_body.specs.Tail.{text_in}
use Rattle.trap_console.specs.declared.row.Row.{Row}

-- a GUID in five groups of hexadecimal digits, its octets in their order
abbrev pub guid_text : List ℕ → List ℕ
guid_text guid =
    encode_lower (take 4 guid) ++ codes "-" ++ encode_lower (take 2 (drop 4 guid)) ++ codes "-" ++ encode_lower (take 2 (drop 6 guid)) ++ codes "-"
    ++ encode_lower (take 2 (drop 8 guid)) ++ codes "-" ++ encode_lower (take 6 (drop 10 guid))

-- the key: GUID, sequence number and timestamp
abbrev pub key_text : Body → List ℕ
key_text body = guid_text body.guid ++ codes " " ++ decimal body.sequence ++ codes " " ++ decimal body.timestamp

-- who sent the trap, and its specific number
abbrev pub sender_text : Row → List ℕ
sender_text row = address_text row.from ++ codes " " ++ decimal row.specific

-- severity, sensor device, sensor number, and event data 1 to 3
abbrev pub event_text : Body → List ℕ
event_text body =
    encode_lower (body.severity ∷ []) ++ codes " " ++ encode_lower (body.device ∷ []) ++ codes " " ++ encode_lower (body.sensor ∷ []) ++ codes " "
    ++ encode_lower (take 3 body.event_data)

-- octets as pairs of digits, or `-` for none
abbrev pub octets_text : List ℕ → List ℕ
octets_text [] = codes "-"
octets_text (octet ∷ octets) = encode_lower (octet ∷ octets)

abbrev pub is_printable : ℕ → Bool
is_printable octet = nat_le 0x20 octet && nat_le octet 0x7E

-- a text follows where there is one that can be printed
abbrev pub text_part : List ℕ → List ℕ
text_part text = if nat_lt 0 (length text) && list_all is_printable text then codes " text " ++ text else []

abbrev pub tail_part : List ℕ → List ℕ
tail_part tail = octets_text tail ++ text_part (text_in tail)

-- the line of the row with this number
abbrev pub row_line : ℕ → Row → List ℕ
row_line number row =
    decimal number ++ codes " " ++ key_text row.body ++ codes " " ++ sender_text row ++ codes " " ++ event_text row.body ++ codes " "
    ++ tail_part row.body.tail ++ line_end

-- the lines of rows, the first of which has the number behind this one
abbrev pub lines_behind : ℕ → List Row → List ℕ
lines_behind number [] = []
lines_behind number (row ∷ rows) = row_line (number + 1) row ++ lines_behind (number + 1) rows

abbrev pub listed : List Row → List ℕ
listed rows = lines_behind 0 rows
