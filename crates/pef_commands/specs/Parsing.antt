-- Which command a request is, or the completion code that refuses it: IPMI 2.0, chapters 23 and 30 and section 31.9, whose tables count
-- octets of a request from 1. Here stand the checks of a request by itself: its length, the operation of Alert Immediate, and the letters
-- and the operation of Clear SEL. Parameters, channels, records and destinations are checked where they are kept. That these codes come,
-- and in this order, is this project's rule.
use Rattle.std.specs.Prelude.{ℕ, ◌+◌, ◌-◌, ◌*◌, ◌/◌, ◌%◌, ◌^◌, Bool, true, false, not, ◌&&◌, ◌||◌, ◌==◌, nat_lt, List, [], ◌∷◌, length, drop, slice_index, Option, Some, None, Result, Ok, Err, if◌then◌else◌}
use Rattle.std.specs.Int.{bit_at}
use Rattle.pef_commands.specs.declared.command.Command.{Command}
use Rattle.pef_commands.specs.declared.command.Command.TheVariants.{Capabilities, Postpone, SetPef, GetPef, SetLast, GetLast, Send, SendStatus, SendClear, SetLan, GetLan, Acknowledge, ClearSel, ClearStatus}
use Rattle.pef_commands.specs.Request.{Asked}

-- octet n of a request, counted from 1
abbrev pub octet : ℕ → List ℕ → ℕ
octet n payload = slice_index payload (n - 1)

-- bits high to low of an octet
abbrev pub bits : ℕ → ℕ → ℕ → ℕ
bits high low octet = octet / 2 ^ low % 2 ^ (high + 1 - low)

-- this code where the check applies, else what comes after
abbrev pub refuse : ℕ → Bool → Result Command ℕ → Result Command ℕ
refuse code true after = Err code
refuse code false after = after

-- bit 7 of an octet asks for the revision alone
abbrev pub asks_revision : ℕ → Bool
asks_revision first = bit_at first 7 == 1

-- a command without data
abbrev pub bare : Command → List ℕ → Result Command ℕ
bare command payload = refuse 0xC7 (not (length payload == 0)) (Ok command)

-- the seconds, or what else is asked of the timer
abbrev pub postpone : List ℕ → Result Command ℕ
postpone payload = refuse 0xC7 (not (length payload == 1)) (Ok (Postpone (octet 1 payload)))

-- the parameter in bits 6:0, and what is to be written
abbrev pub set_pef : List ℕ → Result Command ℕ
set_pef payload = refuse 0xC7 (length payload == 0) (Ok (SetPef (octet 1 payload % 128) (drop 1 payload)))

-- the parameter in bits 6:0, the selector in bits 6:0, the block
abbrev pub get_pef : List ℕ → Result Command ℕ
get_pef payload =
    refuse 0xC7 (not (length payload == 3))
    (Ok (GetPef (octet 1 payload % 128) (asks_revision (octet 1 payload)) (octet 2 payload % 128) (octet 3 payload)))

-- bit 0 is 1 for the record that the BMC processed last, 0 for software's; then the record's ID, its least significant octet first
abbrev pub set_last : List ℕ → Result Command ℕ
set_last payload =
    refuse 0xC7 (not (length payload == 3))
    (Ok (SetLast (bit_at (octet 1 payload) 0 == 1) (octet 2 payload + 0x100 * octet 3 payload)))

-- the number of a string in bits 6:0, where bit 7 asks for one
abbrev pub string_of : ℕ → Option ℕ
string_of octet = if bit_at octet 7 == 1 then Some (bits 6 0 octet) else None

-- Octets 4 to 11, the parameters of a platform event, aren't supported. The operation is bits 7:6 of octet 2: 00b sends an alert, 01b reads
-- the status, 10b clears it. The channel is bits 3:0 of octet 1, the destination bits 3:0 of octet 2, and octet 3 is the string.
abbrev pub alert_immediate : List ℕ → Result Command ℕ
alert_immediate payload =
    let operation = bits 7 6 (octet 2 payload) in
    refuse 0x83 (length payload == 11) (
    refuse 0xC7 (not (length payload == 3)) (
    refuse 0xCC (operation == 0b11) (
    Ok (if operation == 0b00 then Send (bits 3 0 (octet 1 payload)) (bits 3 0 (octet 2 payload)) (string_of (octet 3 payload))
    else (if operation == 0b01 then SendStatus else SendClear)))))

-- the channel in bits 3:0, the parameter, and what is to be written
abbrev pub set_lan : List ℕ → Result Command ℕ
set_lan payload = refuse 0xC7 (nat_lt (length payload) 2) (Ok (SetLan (octet 1 payload % 16) (octet 2 payload) (drop 2 payload)))

-- the channel in bits 3:0, the parameter, the selector in bits 3:0
abbrev pub get_lan : List ℕ → Result Command ℕ
get_lan payload =
    refuse 0xC7 (not (length payload == 4))
    (Ok (GetLan (octet 1 payload % 16) (octet 2 payload) (asks_revision (octet 1 payload)) (octet 3 payload % 16)))

-- octets 1 and 2 are the sequence number and octets 3 to 6 the timestamp, the least significant first; then the event source type, the
-- sensor device, the sensor number, and event data 1 to 3
abbrev pub acknowledge : List ℕ → Result Command ℕ
acknowledge payload =
    refuse 0xC7 (not (length payload == 12))
    (Ok (Acknowledge (record {
      sequence = octet 1 payload + 0x100 * octet 2 payload;
      timestamp = octet 3 payload + 0x100 * octet 4 payload + 0x1_0000 * octet 5 payload + 0x100_0000 * octet 6 payload;
      event_source = octet 7 payload;
      device = octet 8 payload;
      sensor = octet 9 payload;
      event_data = octet 10 payload ∷ octet 11 payload ∷ octet 12 payload ∷ [];
    })))

-- Octets 1 and 2 are a reservation, which isn't checked; then the letters CLR, and what is asked: AAh begins the erasure, 00h reads how it
-- goes.
abbrev pub clear_sel : List ℕ → Result Command ℕ
clear_sel payload =
    let operation = octet 6 payload in
    refuse 0xC7 (not (length payload == 6)) (
    refuse 0xCC (not ((octet 3 payload == 0x43) && (octet 4 payload == 0x4C) && (octet 5 payload == 0x52))) (
    refuse 0xCC (not ((operation == 0xAA) || (operation == 0x00))) (
    Ok (if operation == 0xAA then ClearSel else ClearStatus))))

-- by network function and command; every other pair is no command
abbrev pub parsed : Asked → Result Command ℕ
parsed asked =
    if (asked.netfn == 0x04) && (asked.cmd == 0x10) then bare Capabilities asked.payload
    else if (asked.netfn == 0x04) && (asked.cmd == 0x11) then postpone asked.payload
    else if (asked.netfn == 0x04) && (asked.cmd == 0x12) then set_pef asked.payload
    else if (asked.netfn == 0x04) && (asked.cmd == 0x13) then get_pef asked.payload
    else if (asked.netfn == 0x04) && (asked.cmd == 0x14) then set_last asked.payload
    else if (asked.netfn == 0x04) && (asked.cmd == 0x15) then bare GetLast asked.payload
    else if (asked.netfn == 0x04) && (asked.cmd == 0x16) then alert_immediate asked.payload
    else if (asked.netfn == 0x04) && (asked.cmd == 0x17) then acknowledge asked.payload
    else if (asked.netfn == 0x0A) && (asked.cmd == 0x47) then clear_sel asked.payload
    else if (asked.netfn == 0x0C) && (asked.cmd == 0x01) then set_lan asked.payload
    else if (asked.netfn == 0x0C) && (asked.cmd == 0x02) then get_lan asked.payload
    else Err 0xC1
