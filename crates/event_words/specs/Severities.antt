-- Severities, by the table of the event filter in IPMI 2.0, section 17.7. A trap carries the same codes (PET 1.0).
use Rattle.std.specs.Prelude.{ℕ, List, [], ◌∷◌, Option, codes}
use Rattle.event_words.specs.Rows.{Row, row_at}

-- the code of a severity, and its words
abbrev pub severities : List Row
severities =
    (0x00, codes "severity unspecified")
    ∷ (0x01, codes "monitor")
    ∷ (0x02, codes "information")
    ∷ (0x04, codes "OK")
    ∷ (0x08, codes "non-critical")
    ∷ (0x10, codes "critical")
    ∷ (0x20, codes "non-recoverable")
    ∷ []

-- the words of a severity
unfoldable pub severity_words : ℕ → Option (List ℕ)
severity_words code = row_at severities code
