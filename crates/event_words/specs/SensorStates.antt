-- The states of sensor types with offsets of their own, by IPMI 2.0, table 42-3, in its order: the offset of a state, and its words.
use Rattle.std.specs.Prelude.{ℕ, ◌==◌, List, [], ◌∷◌, Option, codes, if◌then◌else◌}
use Rattle.event_words.specs.Rows.{Row, row_at}

-- 05h, physical security (chassis intrusion)
abbrev pub physical_security_rows : List Row
physical_security_rows =
    (0x00, codes "general chassis intrusion")
    ∷ (0x01, codes "drive bay intrusion")
    ∷ (0x02, codes "I/O card area intrusion")
    ∷ (0x03, codes "processor area intrusion")
    ∷ (0x04, codes "LAN leash lost")
    ∷ (0x05, codes "unauthorized dock")
    ∷ (0x06, codes "fan area intrusion")
    ∷ []

-- 06h, platform security violation attempt
abbrev pub security_violation_rows : List Row
security_violation_rows =
    (0x00, codes "secure mode (front panel lockout) violation attempt")
    ∷ (0x01, codes "pre-boot password violation, user password")
    ∷ (0x02, codes "pre-boot password violation attempt, setup password")
    ∷ (0x03, codes "pre-boot password violation, network boot password")
    ∷ (0x04, codes "other pre-boot password violation")
    ∷ (0x05, codes "out-of-band access password violation")
    ∷ []

-- 07h, processor
abbrev pub processor_rows : List Row
processor_rows =
    (0x00, codes "IERR")
    ∷ (0x01, codes "thermal trip")
    ∷ (0x02, codes "FRB1/BIST failure")
    ∷ (0x03, codes "FRB2/hang in POST failure")
    ∷ (0x04, codes "FRB3/processor startup/initialization failure")
    ∷ (0x05, codes "configuration error")
    ∷ (0x06, codes "SM BIOS 'uncorrectable CPU-complex error'")
    ∷ (0x07, codes "processor presence detected")
    ∷ (0x08, codes "processor disabled")
    ∷ (0x09, codes "terminator presence detected")
    ∷ (0x0A, codes "processor automatically throttled")
    ∷ (0x0B, codes "machine check exception (uncorrectable)")
    ∷ (0x0C, codes "correctable machine check error")
    ∷ []

-- 08h, power supply
abbrev pub power_supply_rows : List Row
power_supply_rows =
    (0x00, codes "presence detected")
    ∷ (0x01, codes "power supply failure detected")
    ∷ (0x02, codes "predictive failure")
    ∷ (0x03, codes "power supply input lost (AC/DC)")
    ∷ (0x04, codes "power supply input lost or out-of-range")
    ∷ (0x05, codes "power supply input out-of-range, but present")
    ∷ (0x06, codes "configuration error")
    ∷ (0x07, codes "power supply inactive (in standby state)")
    ∷ []

-- 09h, power unit
abbrev pub power_unit_rows : List Row
power_unit_rows =
    (0x00, codes "power off / power down")
    ∷ (0x01, codes "power cycle")
    ∷ (0x02, codes "240VA power down")
    ∷ (0x03, codes "interlock power down")
    ∷ (0x04, codes "AC lost / power input lost")
    ∷ (0x05, codes "soft power control failure")
    ∷ (0x06, codes "power unit failure detected")
    ∷ (0x07, codes "predictive failure")
    ∷ []

-- 0Ch, memory
abbrev pub memory_rows : List Row
memory_rows =
    (0x00, codes "correctable ECC / other correctable memory error")
    ∷ (0x01, codes "uncorrectable ECC / other uncorrectable memory error")
    ∷ (0x02, codes "parity")
    ∷ (0x03, codes "memory scrub failed (stuck bit)")
    ∷ (0x04, codes "memory device disabled")
    ∷ (0x05, codes "correctable ECC / other correctable memory error logging limit reached")
    ∷ (0x06, codes "presence detected")
    ∷ (0x07, codes "configuration error")
    ∷ (0x08, codes "spare")
    ∷ (0x09, codes "memory automatically throttled")
    ∷ (0x0A, codes "critical overtemperature")
    ∷ []

-- 0Dh, drive slot (bay)
abbrev pub drive_slot_rows : List Row
drive_slot_rows =
    (0x00, codes "drive presence")
    ∷ (0x01, codes "drive fault")
    ∷ (0x02, codes "predictive failure")
    ∷ (0x03, codes "hot spare")
    ∷ (0x04, codes "consistency check / parity check in progress")
    ∷ (0x05, codes "in critical array")
    ∷ (0x06, codes "in failed array")
    ∷ (0x07, codes "rebuild/remap in progress")
    ∷ (0x08, codes "rebuild/remap aborted")
    ∷ []

-- 0Fh, system firmware progress
abbrev pub firmware_progress_rows : List Row
firmware_progress_rows =
    (0x00, codes "system firmware error (POST error)")
    ∷ (0x01, codes "system firmware hang")
    ∷ (0x02, codes "system firmware progress")
    ∷ []

-- 10h, event logging disabled
abbrev pub logging_disabled_rows : List Row
logging_disabled_rows =
    (0x00, codes "correctable memory error logging disabled")
    ∷ (0x01, codes "event 'type' logging disabled")
    ∷ (0x02, codes "log area reset/cleared")
    ∷ (0x03, codes "all event logging disabled")
    ∷ (0x04, codes "SEL full")
    ∷ (0x05, codes "SEL almost full")
    ∷ (0x06, codes "correctable machine check error logging disabled")
    ∷ []

-- 11h, watchdog 1
abbrev pub watchdog_1_rows : List Row
watchdog_1_rows =
    (0x00, codes "BIOS watchdog reset")
    ∷ (0x01, codes "OS watchdog reset")
    ∷ (0x02, codes "OS watchdog shut down")
    ∷ (0x03, codes "OS watchdog power down")
    ∷ (0x04, codes "OS watchdog power cycle")
    ∷ (0x05, codes "OS watchdog NMI / diagnostic interrupt")
    ∷ (0x06, codes "OS watchdog expired, status only")
    ∷ (0x07, codes "OS watchdog pre-timeout interrupt, non-NMI")
    ∷ []

-- 12h, system event
abbrev pub system_event_rows : List Row
system_event_rows =
    (0x00, codes "system reconfigured")
    ∷ (0x01, codes "OEM system boot event")
    ∷ (0x02, codes "undetermined system hardware failure")
    ∷ (0x03, codes "entry added to auxiliary log")
    ∷ (0x04, codes "PEF action")
    ∷ (0x05, codes "timestamp clock synch")
    ∷ []

-- 13h, critical interrupt
abbrev pub critical_interrupt_rows : List Row
critical_interrupt_rows =
    (0x00, codes "front panel NMI / diagnostic interrupt")
    ∷ (0x01, codes "bus timeout")
    ∷ (0x02, codes "I/O channel check NMI")
    ∷ (0x03, codes "software NMI")
    ∷ (0x04, codes "PCI PERR")
    ∷ (0x05, codes "PCI SERR")
    ∷ (0x06, codes "EISA fail safe timeout")
    ∷ (0x07, codes "bus correctable error")
    ∷ (0x08, codes "bus uncorrectable error")
    ∷ (0x09, codes "fatal NMI")
    ∷ (0x0A, codes "bus fatal error")
    ∷ (0x0B, codes "bus degraded")
    ∷ []

-- 14h, button / switch
abbrev pub button_rows : List Row
button_rows =
    (0x00, codes "power button pressed")
    ∷ (0x01, codes "sleep button pressed")
    ∷ (0x02, codes "reset button pressed")
    ∷ (0x03, codes "FRU latch open")
    ∷ (0x04, codes "FRU service request button")
    ∷ []

-- 19h, chip set
abbrev pub chip_set_rows : List Row
chip_set_rows =
    (0x00, codes "soft power control failure")
    ∷ (0x01, codes "thermal trip")
    ∷ []

-- 1Bh, cable / interconnect
abbrev pub cable_rows : List Row
cable_rows =
    (0x00, codes "cable/interconnect is connected")
    ∷ (0x01, codes "configuration error, incorrect cable connected / incorrect interconnection")
    ∷ []

-- 1Dh, system boot / restart initiated
abbrev pub restart_rows : List Row
restart_rows =
    (0x00, codes "initiated by power up")
    ∷ (0x01, codes "initiated by hard reset")
    ∷ (0x02, codes "initiated by warm reset")
    ∷ (0x03, codes "user requested PXE boot")
    ∷ (0x04, codes "automatic boot to diagnostic")
    ∷ (0x05, codes "OS / run-time software initiated hard reset")
    ∷ (0x06, codes "OS / run-time software initiated warm reset")
    ∷ (0x07, codes "system restart")
    ∷ []

-- 1Eh, boot error
abbrev pub boot_error_rows : List Row
boot_error_rows =
    (0x00, codes "no bootable media")
    ∷ (0x01, codes "non-bootable diskette left in drive")
    ∷ (0x02, codes "PXE server not found")
    ∷ (0x03, codes "invalid boot sector")
    ∷ (0x04, codes "timeout waiting for user selection of boot source")
    ∷ []

-- 1Fh, base OS boot / installation status
abbrev pub boot_status_rows : List Row
boot_status_rows =
    (0x00, codes "A: boot completed")
    ∷ (0x01, codes "C: boot completed")
    ∷ (0x02, codes "PXE boot completed")
    ∷ (0x03, codes "diagnostic boot completed")
    ∷ (0x04, codes "CD-ROM boot completed")
    ∷ (0x05, codes "ROM boot completed")
    ∷ (0x06, codes "boot completed, boot device not specified")
    ∷ (0x07, codes "base OS/hypervisor installation started")
    ∷ (0x08, codes "base OS/hypervisor installation completed")
    ∷ (0x09, codes "base OS/hypervisor installation aborted")
    ∷ (0x0A, codes "base OS/hypervisor installation failed")
    ∷ []

-- 20h, OS stop / shutdown
abbrev pub os_stop_rows : List Row
os_stop_rows =
    (0x00, codes "critical stop during OS load / initialization")
    ∷ (0x01, codes "run-time critical stop")
    ∷ (0x02, codes "OS graceful stop")
    ∷ (0x03, codes "OS graceful shutdown")
    ∷ (0x04, codes "soft shutdown initiated by PEF")
    ∷ (0x05, codes "agent not responding")
    ∷ []

-- 21h, slot / connector
abbrev pub slot_rows : List Row
slot_rows =
    (0x00, codes "fault status asserted")
    ∷ (0x01, codes "identify status asserted")
    ∷ (0x02, codes "slot / connector device installed/attached")
    ∷ (0x03, codes "slot / connector ready for device installation")
    ∷ (0x04, codes "slot / connector ready for device removal")
    ∷ (0x05, codes "slot power is off")
    ∷ (0x06, codes "slot / connector device removal request")
    ∷ (0x07, codes "interlock asserted")
    ∷ (0x08, codes "slot is disabled")
    ∷ (0x09, codes "slot holds spare device")
    ∷ []

-- 22h, system ACPI power state
abbrev pub system_power_rows : List Row
system_power_rows =
    (0x00, codes "S0 / G0 'working'")
    ∷ (0x01, codes "S1 'sleeping with system h/w & processor context maintained'")
    ∷ (0x02, codes "S2 'sleeping, processor context lost'")
    ∷ (0x03, codes "S3 'sleeping, processor & h/w context lost, memory retained'")
    ∷ (0x04, codes "S4 'non-volatile sleep / suspend-to disk'")
    ∷ (0x05, codes "S5 / G2 'soft-off'")
    ∷ (0x06, codes "S4 / S5 soft-off, particular S4 / S5 state cannot be determined")
    ∷ (0x07, codes "G3 / mechanical off")
    ∷ (0x08, codes "sleeping in an S1, S2, or S3 states")
    ∷ (0x09, codes "G1 sleeping")
    ∷ (0x0A, codes "S5 entered by override")
    ∷ (0x0B, codes "legacy ON state")
    ∷ (0x0C, codes "legacy OFF state")
    ∷ (0x0E, codes "unknown")
    ∷ []

-- 23h, watchdog 2
abbrev pub watchdog_2_rows : List Row
watchdog_2_rows =
    (0x00, codes "timer expired, status only (no action, no interrupt)")
    ∷ (0x01, codes "hard reset")
    ∷ (0x02, codes "power down")
    ∷ (0x03, codes "power cycle")
    ∷ (0x08, codes "timer interrupt")
    ∷ []

-- 24h, platform alert
abbrev pub platform_alert_rows : List Row
platform_alert_rows =
    (0x00, codes "platform generated page")
    ∷ (0x01, codes "platform generated LAN alert")
    ∷ (0x02, codes "platform event trap generated")
    ∷ (0x03, codes "platform generated SNMP trap, OEM format")
    ∷ []

-- 25h, entity presence
abbrev pub entity_presence_rows : List Row
entity_presence_rows =
    (0x00, codes "entity present")
    ∷ (0x01, codes "entity absent")
    ∷ (0x02, codes "entity disabled")
    ∷ []

-- 27h, LAN
abbrev pub lan_rows : List Row
lan_rows =
    (0x00, codes "LAN heartbeat lost")
    ∷ (0x01, codes "LAN heartbeat")
    ∷ []

-- 28h, management subsystem health
abbrev pub subsystem_health_rows : List Row
subsystem_health_rows =
    (0x00, codes "sensor access degraded or unavailable")
    ∷ (0x01, codes "controller access degraded or unavailable")
    ∷ (0x02, codes "management controller off-line")
    ∷ (0x03, codes "management controller unavailable")
    ∷ (0x04, codes "sensor failure")
    ∷ (0x05, codes "FRU failure")
    ∷ []

-- 29h, battery
abbrev pub battery_rows : List Row
battery_rows =
    (0x00, codes "battery low (predictive failure)")
    ∷ (0x01, codes "battery failed")
    ∷ (0x02, codes "battery presence detected")
    ∷ []

-- 2Ah, session audit
abbrev pub session_audit_rows : List Row
session_audit_rows =
    (0x00, codes "session activated")
    ∷ (0x01, codes "session deactivated")
    ∷ (0x02, codes "invalid username or password")
    ∷ (0x03, codes "invalid password disable")
    ∷ []

-- 2Bh, version change
abbrev pub version_change_rows : List Row
version_change_rows =
    (0x00, codes "hardware change detected with associated entity")
    ∷ (0x01, codes "firmware or software change detected with associated entity")
    ∷ (0x02, codes "hardware incompatibility detected with associated entity")
    ∷ (0x03, codes "firmware or software incompatibility detected with associated entity")
    ∷ (0x04, codes "entity is of an invalid or unsupported hardware version")
    ∷ (0x05, codes "entity contains an invalid or unsupported firmware or software version")
    ∷ (0x06, codes "hardware change detected with associated entity was successful")
    ∷ (0x07, codes "software or f/w change detected with associated entity was successful")
    ∷ []

-- 2Ch, FRU state
abbrev pub fru_state_rows : List Row
fru_state_rows =
    (0x00, codes "FRU not installed")
    ∷ (0x01, codes "FRU inactive")
    ∷ (0x02, codes "FRU activation requested")
    ∷ (0x03, codes "FRU activation in progress")
    ∷ (0x04, codes "FRU active")
    ∷ (0x05, codes "FRU deactivation requested")
    ∷ (0x06, codes "FRU deactivation in progress")
    ∷ (0x07, codes "FRU communication lost")
    ∷ []

-- the rows of a sensor type
abbrev pub sensor_rows : ℕ → List Row
sensor_rows sensor_type =
    if sensor_type == 0x05 then physical_security_rows
    else if sensor_type == 0x06 then security_violation_rows
    else if sensor_type == 0x07 then processor_rows
    else if sensor_type == 0x08 then power_supply_rows
    else if sensor_type == 0x09 then power_unit_rows
    else if sensor_type == 0x0C then memory_rows
    else if sensor_type == 0x0D then drive_slot_rows
    else if sensor_type == 0x0F then firmware_progress_rows
    else if sensor_type == 0x10 then logging_disabled_rows
    else if sensor_type == 0x11 then watchdog_1_rows
    else if sensor_type == 0x12 then system_event_rows
    else if sensor_type == 0x13 then critical_interrupt_rows
    else if sensor_type == 0x14 then button_rows
    else if sensor_type == 0x19 then chip_set_rows
    else if sensor_type == 0x1B then cable_rows
    else if sensor_type == 0x1D then restart_rows
    else if sensor_type == 0x1E then boot_error_rows
    else if sensor_type == 0x1F then boot_status_rows
    else if sensor_type == 0x20 then os_stop_rows
    else if sensor_type == 0x21 then slot_rows
    else if sensor_type == 0x22 then system_power_rows
    else if sensor_type == 0x23 then watchdog_2_rows
    else if sensor_type == 0x24 then platform_alert_rows
    else if sensor_type == 0x25 then entity_presence_rows
    else if sensor_type == 0x27 then lan_rows
    else if sensor_type == 0x28 then subsystem_health_rows
    else if sensor_type == 0x29 then battery_rows
    else if sensor_type == 0x2A then session_audit_rows
    else if sensor_type == 0x2B then version_change_rows
    else if sensor_type == 0x2C then fru_state_rows
    else []

-- the words at an offset of a sensor type
unfoldable pub sensor_words : ℕ → ℕ → Option (List ℕ)
sensor_words sensor_type offset = row_at (sensor_rows sensor_type) offset
