-- The states of generic event types, by IPMI 2.0, table 42-2, in its order: the offset of a state, and its words.
use Rattle.std.specs.Prelude.{ℕ, ◌==◌, List, [], ◌∷◌, Option, codes, if◌then◌else◌}
use Rattle.event_words.specs.Rows.{Row, row_at}

-- 01h, threshold states
abbrev pub threshold_rows : List Row
threshold_rows =
    (0x00, codes "lower non-critical, going low")
    ∷ (0x01, codes "lower non-critical, going high")
    ∷ (0x02, codes "lower critical, going low")
    ∷ (0x03, codes "lower critical, going high")
    ∷ (0x04, codes "lower non-recoverable, going low")
    ∷ (0x05, codes "lower non-recoverable, going high")
    ∷ (0x06, codes "upper non-critical, going low")
    ∷ (0x07, codes "upper non-critical, going high")
    ∷ (0x08, codes "upper critical, going low")
    ∷ (0x09, codes "upper critical, going high")
    ∷ (0x0A, codes "upper non-recoverable, going low")
    ∷ (0x0B, codes "upper non-recoverable, going high")
    ∷ []

-- 02h, usage states
abbrev pub usage_rows : List Row
usage_rows =
    (0x00, codes "transition to idle")
    ∷ (0x01, codes "transition to active")
    ∷ (0x02, codes "transition to busy")
    ∷ []

-- 03h, digital states
abbrev pub digital_state_rows : List Row
digital_state_rows =
    (0x00, codes "state deasserted")
    ∷ (0x01, codes "state asserted")
    ∷ []

-- 04h, predictive failure
abbrev pub predictive_failure_rows : List Row
predictive_failure_rows =
    (0x00, codes "predictive failure deasserted")
    ∷ (0x01, codes "predictive failure asserted")
    ∷ []

-- 05h, limits
abbrev pub limit_rows : List Row
limit_rows =
    (0x00, codes "limit not exceeded")
    ∷ (0x01, codes "limit exceeded")
    ∷ []

-- 06h, performance
abbrev pub performance_rows : List Row
performance_rows =
    (0x00, codes "performance met")
    ∷ (0x01, codes "performance lags")
    ∷ []

-- 07h, severity states
abbrev pub severity_state_rows : List Row
severity_state_rows =
    (0x00, codes "transition to OK")
    ∷ (0x01, codes "transition to non-critical from OK")
    ∷ (0x02, codes "transition to critical from less severe")
    ∷ (0x03, codes "transition to non-recoverable from less severe")
    ∷ (0x04, codes "transition to non-critical from more severe")
    ∷ (0x05, codes "transition to critical from non-recoverable")
    ∷ (0x06, codes "transition to non-recoverable")
    ∷ (0x07, codes "monitor")
    ∷ (0x08, codes "informational")
    ∷ []

-- 08h, presence of a device
abbrev pub presence_rows : List Row
presence_rows =
    (0x00, codes "device removed / device absent")
    ∷ (0x01, codes "device inserted / device present")
    ∷ []

-- 09h, enabling of a device
abbrev pub enabling_rows : List Row
enabling_rows =
    (0x00, codes "device disabled")
    ∷ (0x01, codes "device enabled")
    ∷ []

-- 0Ah, availability states
abbrev pub availability_rows : List Row
availability_rows =
    (0x00, codes "transition to running")
    ∷ (0x01, codes "transition to in test")
    ∷ (0x02, codes "transition to power off")
    ∷ (0x03, codes "transition to on line")
    ∷ (0x04, codes "transition to off line")
    ∷ (0x05, codes "transition to off duty")
    ∷ (0x06, codes "transition to degraded")
    ∷ (0x07, codes "transition to power save")
    ∷ (0x08, codes "install error")
    ∷ []

-- 0Bh, redundancy states
abbrev pub redundancy_rows : List Row
redundancy_rows =
    (0x00, codes "fully redundant")
    ∷ (0x01, codes "redundancy lost")
    ∷ (0x02, codes "redundancy degraded")
    ∷ (0x03, codes "non-redundant: sufficient resources from redundant")
    ∷ (0x04, codes "non-redundant: sufficient resources from insufficient resources")
    ∷ (0x05, codes "non-redundant: insufficient resources")
    ∷ (0x06, codes "redundancy degraded from fully redundant")
    ∷ (0x07, codes "redundancy degraded from non-redundant")
    ∷ []

-- 0Ch, ACPI device power states
abbrev pub device_power_rows : List Row
device_power_rows =
    (0x00, codes "D0 power state")
    ∷ (0x01, codes "D1 power state")
    ∷ (0x02, codes "D2 power state")
    ∷ (0x03, codes "D3 power state")
    ∷ []

-- the rows of an event type
abbrev pub generic_rows : ℕ → List Row
generic_rows code =
    if code == 0x01 then threshold_rows
    else if code == 0x02 then usage_rows
    else if code == 0x03 then digital_state_rows
    else if code == 0x04 then predictive_failure_rows
    else if code == 0x05 then limit_rows
    else if code == 0x06 then performance_rows
    else if code == 0x07 then severity_state_rows
    else if code == 0x08 then presence_rows
    else if code == 0x09 then enabling_rows
    else if code == 0x0A then availability_rows
    else if code == 0x0B then redundancy_rows
    else if code == 0x0C then device_power_rows
    else []

-- the words at an offset of an event type
unfoldable pub generic_words : ℕ → ℕ → Option (List ℕ)
generic_words code offset = row_at (generic_rows code) offset
