-- Worked rows of `show`: what histories and jobs show, and pages.
use Rattle.std.proofs.Common.{◌≡◌, ℕ, true, false, List, [], ◌∷◌, ◌++◌, replicate, Option, Some, None, refl}
use Rattle.std.specs.Prelude.{codes}
use Rattle.std.specs.Fmt.{digits}
use Rattle.hex.specs.Hex.{encode_with}
use Rattle.board_core.specs.declared.step.Act.TheVariants.{Reset}
use Rattle.pef_engine.specs.declared.entry.Entry.{Entry}
use Rattle.pef_engine.specs.declared.entry.Entry.TheVariants.{Item as Taken}
use Rattle.job_course.specs.declared.part.Part.TheVariants.{Acting}
use Rattle.job_course.specs.Running.{Running}
use Rattle.pef_core.specs.declared.item.Item.{Item}
use Rattle.pef_core.specs.declared.item.Item.TheVariants.{Event, Command, Tick, Power, Open}
use Rattle.pef_core.specs.declared.summary.Summary.{Summary}
use Rattle.pef_core.specs.Shown.{job_id, summary, page, shown_page}

-- Settings with 16 octets of GUID, and the agent address 10.0.0.2. PEF is enabled, the mask allows all actions, and the filter asks for a
-- diagnostic interrupt for a fan that is at offset 2 of event type 01h.
abbrev settings : List ℕ
settings =
    replicate 16 0 ++ (10 ∷ 0 ∷ 0 ∷ 2 ∷ 0 ∷ 0 ∷ 0 ∷ 0 ∷ 0 ∷ 0 ∷ 162 ∷ 0 ∷ 162 ∷ 0 ∷ 162 ∷ 0 ∷ 0x01 ∷ 0x3F ∷ 0x00 ∷ [])
    ++ (0x80 ∷ 0x20 ∷ 0x00 ∷ 0x10 ∷ 0xFF ∷ 0xFF ∷ 0x04 ∷ 0xFF ∷ 0x01 ∷ 0x04 ∷ 0x00 ∷ []) ++ replicate 9 0

-- a fan's event with this ID
abbrev fan_octets : ℕ → List ℕ
fan_octets id = id ∷ 0x00 ∷ 0x02 ∷ 0x00 ∷ 0xCA ∷ 0x9A ∷ 0x3B ∷ 0x20 ∷ 0x00 ∷ 0x04 ∷ 0x04 ∷ 0x30 ∷ 0x01 ∷ 0x52 ∷ 0x10 ∷ 0x20 ∷ []

abbrev fan : ℕ → Entry Item
fan id = Taken (Event (fan_octets id))

-- a command of the network function 04h
abbrev asks : ℕ → List ℕ → Entry Item
asks cmd payload = Taken (Command (record { netfn = 0x04; cmd = cmd; payload = payload }))

-- a controller at its start
abbrev fresh : Summary
fresh = record {
  records = 0;
  processed = 0;
  last = 0x0000;
  job = None;
  status = 0x00;
  ticks = 0;
  delay = 0;
  postpone = 0;
  sequence = 1;
  pending = false;
}

at_the_start : summary settings [] ≡ fresh
at_the_start = refl

-- the job of the log's third record, and an alert at once
abbrev runs : Option ℕ → Running
runs number = record {
  work = record { number = number; job = record { act = Some Reset; targets = []; oem = false; event = Some (fan_octets 7) }; guid = replicate 16 0 };
  part = Acting Reset;
}

job_runs : job_id (Some (runs (Some 3))) ≡ Some 0x0007
job_runs = refl

at_once : job_id (Some (runs None)) ≡ None
at_once = refl

none_runs : job_id None ≡ None
none_runs = refl

-- the record waits while PEF is held for five seconds, and while it is disabled for the time being
held : summary settings (asks 0x11 (0x05 ∷ []) ∷ fan 1 ∷ Taken Tick ∷ []) ≡ record fresh { records = 1; ticks = 1; postpone = 4 }
held = refl

disabled : summary settings (asks 0x11 (0xFE ∷ []) ∷ fan 1 ∷ []) ≡ record fresh { records = 1; postpone = 254 }
disabled = refl

-- a startup delay of three seconds
delayed : summary settings (asks 0x12 (0x01 ∷ 0x05 ∷ []) ∷ asks 0x12 (0x03 ∷ 0x03 ∷ []) ∷ Taken Power ∷ Taken Tick ∷ []) ≡ record fresh { ticks = 1; delay = 2 }
delayed = refl

-- the mark is set behind the first of two records
marked : summary settings (asks 0x12 (0x01 ∷ 0x00 ∷ []) ∷ fan 7 ∷ fan 8 ∷ asks 0x14 (0x01 ∷ 0x07 ∷ 0x00 ∷ []) ∷ []) ≡ record fresh { records = 2; processed = 1; last = 0x0007 }
marked = refl

-- the pages: of a controller at its start, of a script that goes on while PEF is disabled, and with each number as long as it can be
first_page : page fresh None ≡ codes "records 0\nprocessed 0\nlast 0000\njob none\nimmediate 00\nticks 0\ndelay 0\npostpone 0\nsequence 1\nscript none\npending no\n"
unfolding digits encode_with
first_page = refl

page_of_a_script : shown_page settings (Taken (Open 10 8) ∷ asks 0x12 (0x01 ∷ 0x00 ∷ []) ∷ fan 1 ∷ [])
    ≡ codes "records 1\nprocessed 0\nlast 0000\njob none\nimmediate 00\nticks 0\ndelay 0\npostpone 0\nsequence 1\nscript 0000000a 8 2 open\npending no\n"
unfolding digits encode_with
page_of_a_script = refl

long_page : page (record { records = 1024; processed = 1023; last = 0xABCD; job = Some 0x0400; status = 0xFF; ticks = 4294967295; delay = 255; postpone = 254; sequence = 65535; pending = true })
    (Some (record { id = 0xDEADBEEF; count = 1000000; taken = 1000000; closed = true }))
    ≡ codes "records 1024\nprocessed 1023\nlast abcd\njob 0400\nimmediate ff\nticks 4294967295\ndelay 255\npostpone 254\nsequence 65535\nscript deadbeef 1000000 1000000 closed\npending yes\n"
unfolding digits encode_with
long_page = refl
