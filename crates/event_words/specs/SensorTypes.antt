-- The names of sensor types, by IPMI 2.0, table 42-3, in its order. Type 00h and types 2Dh to BFh are reserved, and C0h to FFh are OEM types.
use Rattle.std.specs.Prelude.{ℕ, List, [], ◌∷◌, Option, codes}
use Rattle.event_words.specs.Rows.{Row, row_at}

-- the code of a type, and its name
abbrev pub sensor_types : List Row
sensor_types =
    (0x01, codes "temperature")
    ∷ (0x02, codes "voltage")
    ∷ (0x03, codes "current")
    ∷ (0x04, codes "fan")
    ∷ (0x05, codes "physical security (chassis intrusion)")
    ∷ (0x06, codes "platform security violation attempt")
    ∷ (0x07, codes "processor")
    ∷ (0x08, codes "power supply")
    ∷ (0x09, codes "power unit")
    ∷ (0x0A, codes "cooling device")
    ∷ (0x0B, codes "other units-based sensor")
    ∷ (0x0C, codes "memory")
    ∷ (0x0D, codes "drive slot (bay)")
    ∷ (0x0E, codes "POST memory resize")
    ∷ (0x0F, codes "system firmware progress")
    ∷ (0x10, codes "event logging disabled")
    ∷ (0x11, codes "watchdog 1")
    ∷ (0x12, codes "system event")
    ∷ (0x13, codes "critical interrupt")
    ∷ (0x14, codes "button / switch")
    ∷ (0x15, codes "module / board")
    ∷ (0x16, codes "microcontroller / coprocessor")
    ∷ (0x17, codes "add-in card")
    ∷ (0x18, codes "chassis")
    ∷ (0x19, codes "chip set")
    ∷ (0x1A, codes "other FRU")
    ∷ (0x1B, codes "cable / interconnect")
    ∷ (0x1C, codes "terminator")
    ∷ (0x1D, codes "system boot / restart initiated")
    ∷ (0x1E, codes "boot error")
    ∷ (0x1F, codes "base OS boot / installation status")
    ∷ (0x20, codes "OS stop / shutdown")
    ∷ (0x21, codes "slot / connector")
    ∷ (0x22, codes "system ACPI power state")
    ∷ (0x23, codes "watchdog 2")
    ∷ (0x24, codes "platform alert")
    ∷ (0x25, codes "entity presence")
    ∷ (0x26, codes "monitor ASIC / IC")
    ∷ (0x27, codes "LAN")
    ∷ (0x28, codes "management subsystem health")
    ∷ (0x29, codes "battery")
    ∷ (0x2A, codes "session audit")
    ∷ (0x2B, codes "version change")
    ∷ (0x2C, codes "FRU state")
    ∷ []

-- the name of a type
unfoldable pub sensor_type_words : ℕ → Option (List ℕ)
sensor_type_words code = row_at sensor_types code
