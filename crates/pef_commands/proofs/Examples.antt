-- Worked examples of the definitions: requests, and the commands that they are.
use Rattle.std.proofs.Common.{◌≡◌, ℕ, true, false, List, [], ◌∷◌, ◌++◌, take, Some, None, Ok, Err, refl, replicate}
use Rattle.std.specs.Prelude.{codes}
use Rattle.pef_commands.specs.declared.command.Command.TheVariants.{Capabilities, Postpone, SetPef, GetPef, SetLast, GetLast, Send, SendStatus, SendClear, SetLan, GetLan, Acknowledge, ClearSel, ClearStatus}
use Rattle.pef_commands.specs.Request.{Asked, request_of}
use Rattle.pef_commands.specs.Parsing.{parsed}

abbrev asked : ℕ → ℕ → List ℕ → Asked
asked netfn cmd payload = record { netfn = netfn; cmd = cmd; payload = payload }

pub commands :
    (parsed (asked 0x04 0x12 (0x05 ∷ 0x10 ∷ [])) ≡ Ok (SetPef 0x05 (0x10 ∷ [])))
    × (parsed (asked 0x04 0x13 (0x86 ∷ 0x81 ∷ 0x02 ∷ [])) ≡ Ok (GetPef 0x06 true 0x01 0x02))
    × (parsed (asked 0x0C 0x01 (0xF2 ∷ 0x12 ∷ 0x01 ∷ [])) ≡ Ok (SetLan 0x02 0x12 (0x01 ∷ [])))
    × (parsed (asked 0x0C 0x02 (0x01 ∷ 0x13 ∷ 0xF4 ∷ 0x00 ∷ [])) ≡ Ok (GetLan 0x01 0x13 false 0x04))
commands = (refl, refl, refl, refl)

pub refusals :
    (parsed (asked 0x04 0x12 []) ≡ Err 0xC7)
    × (parsed (asked 0x04 0x13 (0x05 ∷ 0x00 ∷ [])) ≡ Err 0xC7)
    × (parsed (asked 0x0C 0x01 (0x01 ∷ [])) ≡ Err 0xC7)
    × (parsed (asked 0x0C 0x02 (0x01 ∷ 0x13 ∷ 0x04 ∷ [])) ≡ Err 0xC7)
    × (parsed (asked 0x04 0x99 []) ≡ Err 0xC1)
    × (parsed (asked 0x0C 0x12 (0x05 ∷ [])) ≡ Err 0xC1)
refusals = (refl, refl, refl, refl, refl, refl)

pub requests :
    (request_of 0x3F 0xFF [] ≡ Some (asked 0x3F 0xFF [])) × (request_of 0x40 0x00 [] ≡ None)
    × (request_of 0x04 0x12 (replicate 64 0) ≡ Some (asked 0x04 0x12 (replicate 64 0))) × (request_of 0x04 0x12 (replicate 65 0) ≡ None)
requests = (refl, refl, refl, refl)

-- a fan's trap is acknowledged: sequence number 1, 116387200 seconds since 1998-01-01
abbrev acknowledgement : List ℕ
acknowledgement = 0x01 ∷ 0x00 ∷ 0x80 ∷ 0xED ∷ 0xEF ∷ 0x06 ∷ 0x20 ∷ 0x20 ∷ 0x30 ∷ 0x52 ∷ 0x10 ∷ 0x20 ∷ []

pub acknowledgements :
    (parsed (asked 0x04 0x17 acknowledgement) ≡ Ok (Acknowledge (record {
      sequence = 1;
      timestamp = 116387200;
      event_source = 0x20;
      device = 0x20;
      sensor = 0x30;
      event_data = 0x52 ∷ 0x10 ∷ 0x20 ∷ [];
    })))
    × (parsed (asked 0x04 0x17 (take 11 acknowledgement)) ≡ Err 0xC7)
    × (parsed (asked 0x04 0x17 (acknowledgement ++ 0x00 ∷ [])) ≡ Err 0xC7)
    × (parsed (asked 0x0C 0x17 acknowledgement) ≡ Err 0xC1)
acknowledgements = (refl, refl, refl, refl)

-- the BMC's mark by bit 0, and the ID with its least significant octet first
pub marks :
    (parsed (asked 0x04 0x14 (0x01 ∷ 0x34 ∷ 0x12 ∷ [])) ≡ Ok (SetLast true 0x1234))
    × (parsed (asked 0x04 0x14 (0xFE ∷ 0xFF ∷ 0x00 ∷ [])) ≡ Ok (SetLast false 0x00FF))
    × (parsed (asked 0x04 0x15 []) ≡ Ok GetLast) × (parsed (asked 0x04 0x15 (0x00 ∷ [])) ≡ Err 0xC7)
    × (parsed (asked 0x04 0x10 []) ≡ Ok Capabilities) × (parsed (asked 0x04 0x11 (0xFE ∷ [])) ≡ Ok (Postpone 0xFE))
marks = (refl, refl, refl, refl, refl, refl)

-- 83h comes before the length, and the length before the operation
pub immediate_alerts :
    (parsed (asked 0x04 0x16 (replicate 11 0xC0)) ≡ Err 0x83) × (parsed (asked 0x04 0x16 (replicate 10 0xC0)) ≡ Err 0xC7) × (parsed (asked 0x04 0x16 (replicate 3 0xC0)) ≡ Err 0xCC)
    × (parsed (asked 0x04 0x16 (0xF1 ∷ 0x32 ∷ 0x85 ∷ [])) ≡ Ok (Send 1 2 (Some 5)))
    × (parsed (asked 0x04 0x16 (0x01 ∷ 0x02 ∷ 0x05 ∷ [])) ≡ Ok (Send 1 2 None))
    × (parsed (asked 0x04 0x16 (0x01 ∷ 0x42 ∷ 0x05 ∷ [])) ≡ Ok SendStatus) × (parsed (asked 0x04 0x16 (0x01 ∷ 0x82 ∷ 0x05 ∷ [])) ≡ Ok SendClear)
immediate_alerts = (refl, refl, refl, refl, refl, refl, refl)

-- a reservation, the letters, and the operation
abbrev clearing : List ℕ → ℕ → List ℕ
clearing letters operation = 0x12 ∷ 0x34 ∷ letters ++ operation ∷ []

pub clearings :
    (parsed (asked 0x0A 0x47 (clearing (codes "CLR") 0xAA)) ≡ Ok ClearSel) × (parsed (asked 0x0A 0x47 (clearing (codes "CLR") 0x00)) ≡ Ok ClearStatus)
    × (parsed (asked 0x0A 0x47 (clearing (codes "CLR") 0x01)) ≡ Err 0xCC) × (parsed (asked 0x0A 0x47 (clearing (codes "CLS") 0xAA)) ≡ Err 0xCC)
    × (parsed (asked 0x0A 0x47 (clearing (codes "CL") 0xAA)) ≡ Err 0xC7)
clearings = (refl, refl, refl, refl, refl)
