-- Which lines say something: those of scripts, captures and reports with a record or a trap in them, those of `list`, and octets alone. The
-- forms are this project's own.
use Rattle.std.specs.Prelude.{ℕ, Bool, ◌&&◌, ◌||◌, ◌==◌, if◌then◌else◌, List, [], ◌∷◌, length, slice_index, Option, Some, None, is_some, bytes_eq, codes}
use Rattle.script_text.specs.Forms.{words_of, octets_exactly, octets_up_to, address_of, decimal_of}
use Rattle.pef_words.specs.declared.said.Said.{Said}
use Rattle.pef_words.specs.Said.{said_of_record, said_of_trap, said_of_number}

abbrev pub said_in_record : Option (List ℕ) → Option Said
said_in_record (Some octets) = said_of_record octets
said_in_record None = None

abbrev pub said_in_trap : Option (List ℕ) → Option Said
said_in_trap (Some octets) = said_of_trap octets
said_in_trap None = None

-- a trap of at most 512 octets in hexadecimal digits
abbrev pub trap_in : List ℕ → Option Said
trap_in word = said_in_trap (octets_up_to 512 word)

-- a record's sixteen octets in hexadecimal digits
abbrev pub record_in : List ℕ → Option Said
record_in word = said_in_record (octets_exactly 16 word)

-- octets alone: sixteen are a record, and others a trap
abbrev pub lone : List ℕ → Option Said
lone word = if is_some (octets_exactly 16 word) then record_in word else trap_in word

-- `event OCTETS`, of a controller's script
abbrev pub event_line : List ℕ → List ℕ → Option Said
event_line word octets = if bytes_eq word (codes "event") then record_in octets else None

-- `datagram ADDRESS OCTETS`, of a console's capture
abbrev pub datagram_line : List ℕ → List ℕ → List ℕ → Option Said
datagram_line word from octets = if bytes_eq word (codes "datagram") && is_some (address_of from) then trap_in octets else None

abbrev pub is_told : List ℕ → Bool
is_told word = bytes_eq word (codes "done") || bytes_eq word (codes "failed")

-- `send ADDRESS OCTETS TOLD`, of a report
abbrev pub send_line : List ℕ → List ℕ → List ℕ → List ℕ → Option Said
send_line word to octets told =
    if bytes_eq word (codes "send") && (is_some (address_of to) && is_told told) then trap_in octets else None

-- the first five words of a row: its number, the GUID, the sequence number, the timestamp and the sender
abbrev pub are_key : List ℕ → List ℕ → List ℕ → List ℕ → List ℕ → Bool
are_key number guid sequence stamp from =
    is_some (decimal_of 5 65536 number) && (length guid == 36 && (is_some (decimal_of 5 65535 sequence)
    && (is_some (decimal_of 10 4294967295 stamp) && is_some (address_of from))))

abbrev pub said_by_fields : Option ℕ → Option (List ℕ) → Option (List ℕ) → Option (List ℕ) → Option (List ℕ) → Option Said
said_by_fields (Some specific) (Some severity) (Some device) (Some sensor) (Some octets) =
    said_of_number specific (slice_index severity 0) (slice_index sensor 0) octets
said_by_fields specific severity device sensor octets = None

-- the other words of a row: the specific number, severity, device, sensor, event data 1 to 3, the tail, and more if it has a text
abbrev pub said_of_row : List (List ℕ) → Option Said
said_of_row [] = None
said_of_row (specific ∷ []) = None
said_of_row (specific ∷ severity ∷ []) = None
said_of_row (specific ∷ severity ∷ device ∷ []) = None
said_of_row (specific ∷ severity ∷ device ∷ sensor ∷ []) = None
said_of_row (specific ∷ severity ∷ device ∷ sensor ∷ octets ∷ []) = None
said_of_row (specific ∷ severity ∷ device ∷ sensor ∷ octets ∷ tail ∷ more) =
    said_by_fields (decimal_of 10 4294967295 specific) (octets_exactly 1 severity) (octets_exactly 1 device) (octets_exactly 1 sensor)
    (octets_exactly 3 octets)

-- a row of `list`, by its first five words and the others
abbrev pub row_line : List ℕ → List ℕ → List ℕ → List ℕ → List ℕ → List (List ℕ) → Option Said
row_line number guid sequence stamp from more = if are_key number guid sequence stamp from then said_of_row more else None

abbrev pub said_of_words : List (List ℕ) → Option Said
said_of_words [] = None
said_of_words (a ∷ []) = lone a
said_of_words (a ∷ b ∷ []) = event_line a b
said_of_words (a ∷ b ∷ c ∷ []) = datagram_line a b c
said_of_words (a ∷ b ∷ c ∷ d ∷ []) = send_line a b c d
said_of_words (a ∷ b ∷ c ∷ d ∷ e ∷ more) = row_line a b c d e more

-- what a line says
unfoldable pub said_of_line : List ℕ → Option Said
said_of_line line = said_of_words (words_of line)
