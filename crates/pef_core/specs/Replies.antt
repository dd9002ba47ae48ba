-- The reply to a command and what it changes, by what stands. Commands and completion codes: IPMI 2.0, chapters 5, 23 and 30, and section
-- 31.9; the rows of the parameters stand beside them. The checks stand in their order, and the first that applies gives the code. Their
-- conditions and their order are this project's.
use Rattle.std.specs.Prelude.{ℕ, ◌-◌, ◌==◌, Bool, false, not, ◌&&◌, ◌||◌, nat_lt, nat_le, List, [], ◌∷◌, ◌++◌, length, slice_get, Option, Some, None, Result, Ok, Err, is_some, if◌then◌else◌}
use Rattle.std.specs.Int.{to_le_bytes, w16, w32}
use Rattle.event_record.specs.Fields.{record_id, record_stamp}
use Rattle.event_record.specs.Log.{place_in}
use Rattle.pef_commands.specs.declared.command.Command as command
use Rattle.pef_commands.specs.declared.command.Command.TheVariants as commands
use Rattle.pef_commands.specs.Parsing.{parsed}
use Rattle.pef_commands.specs.Request.{Asked}
use Rattle.lan_dest.specs.Rows as lan_rows
use Rattle.pef_config.specs.Places.{our_sizes, write}
use Rattle.pef_config.specs.Rows.{answer_if, set_code, get_reply}
use Rattle.pef_match.specs.declared.target.Target.{Target}
use Rattle.pef_match.specs.AtOnce.{target_at_once}
use Rattle.job_course.specs.Running.{Running}
use Rattle.pef_core.specs.declared.postpone.Postpone.{Postpone}
use Rattle.pef_core.specs.declared.postpone.Postpone.TheVariants.{Disabled, Seconds}
use Rattle.pef_core.specs.Past.{Effect, Unchanged, SetPef, SetLan, Acked, Armed, Marked, SoftwareMarked, Cleared, Sends, StatusCleared}
use Rattle.pef_core.specs.Course.{guid_by}
use Rattle.pef_core.specs.Values.{Values, force_of}

pub record Answer : Type 0 where
  pub octets : List ℕ
  pub effect : Effect

-- a code alone that changes nothing
abbrev pub refusal : ℕ → Answer
refusal code = record { octets = code ∷ []; effect = Unchanged }

-- 00h and these octets, which change nothing
abbrev pub telling : List ℕ → Answer
telling octets = record { octets = 0x00 ∷ octets; effect = Unchanged }

-- 00h alone, with this effect
abbrev pub done_with : Effect → Answer
done_with effect = record { octets = 0x00 ∷ []; effect = effect }

-- a code alone, and the write is accepted where that is 00h
abbrev pub answer_to_write : ℕ → Effect → Answer
answer_to_write code effect = record { octets = code ∷ []; effect = if code == 0x00 then effect else Unchanged }

-- Get PEF Capabilities (30.1): version 1.5, the actions of bits 5 to 0, 16 filters
abbrev pub capabilities : Answer
capabilities = telling (0x51 ∷ 0x3F ∷ 0x10 ∷ [])

-- Arm PEF Postpone Timer (30.2): FFh reads only, and FEh disables PEF for the time being. The reply tells how the timer stands then.
abbrev pub timer_octet : Postpone → ℕ
timer_octet Disabled = 0xFE
timer_octet (Seconds left) = left

abbrev pub armed_by : ℕ → Postpone
armed_by octet = if octet == 0xFE then Disabled else Seconds octet

abbrev pub arm : Postpone → ℕ → Answer
arm before octet =
    if octet == 0xFF then telling (timer_octet before ∷ [])
    else record { octets = 0x00 ∷ timer_octet (armed_by octet) ∷ []; effect = Armed (armed_by octet) }

-- a record's job runs
abbrev pub runs_job : Option Running → Bool
runs_job None = false
runs_job (Some r) = is_some r.work.number

-- an alert at once runs
abbrev pub runs_alert : Option Running → Bool
runs_alert None = false
runs_alert (Some r) = not (is_some r.work.number)

-- Set Last Processed Event ID (30.5): the BMC's mark, or what software says. 0000h stands for none.
abbrev pub is_held : List (List ℕ) → ℕ → Bool
is_held records id = (id == 0x0000) || is_some (place_in records id)

abbrev pub set_last : Values → Bool → ℕ → Answer
set_last v of_bmc id =
    answer_if (of_bmc && runs_job v.now.running) (refusal 0xD5) (
    answer_if (not (is_held v.records id)) (refusal 0xCB)
    (done_with (if of_bmc then Marked id else SoftwareMarked id)))

-- Get Last Processed Event ID (30.6): the time-stamp of the record that was added last, FFFFFFFFh where there is none; its ID, FFFFh where
-- the log is empty; what software says; and the ID of the record at the mark, 0000h where that is before all.
abbrev pub stamp_octets : Option ℕ → List ℕ
stamp_octets None = 0xFF ∷ 0xFF ∷ 0xFF ∷ 0xFF ∷ []
stamp_octets (Some stamp) = to_le_bytes w32 stamp

abbrev pub newest : List (List ℕ) → Option (List ℕ)
newest records = slice_get records (length records - 1)

abbrev pub newest_stamp : Option (List ℕ) → Option ℕ
newest_stamp None = None
newest_stamp (Some event) = record_stamp event

abbrev pub id_or : ℕ → Option (List ℕ) → ℕ
id_or none None = none
id_or none (Some event) = record_id event

abbrev pub processed : List (List ℕ) → ℕ → Option (List ℕ)
processed records mark = if mark == 0 then None else slice_get records (mark - 1)

abbrev pub get_last : Values → Answer
get_last v = telling (
    stamp_octets (newest_stamp (newest v.records))
    ++ to_le_bytes w16 (id_or 0xFFFF (newest v.records))
    ++ to_le_bytes w16 v.software
    ++ to_le_bytes w16 (id_or 0x0000 (processed v.records v.now.mark)))

-- Alert Immediate (30.7): sends an alert at once, tells how the last one ended, or forgets it. A string is one of 0 to 8.
abbrev pub is_no_string : Option ℕ → Bool
is_no_string None = false
is_no_string (Some number) = not (nat_le number 8)

abbrev pub send_to : Values → Option Target → Answer
send_to v None = refusal 0xCB
send_to v (Some target) = answer_if (is_some v.now.running) (refusal 0x81) (done_with (Sends target (guid_by (force_of v))))

abbrev pub send : Values → ℕ → ℕ → Option ℕ → Answer
send v channel destination string =
    answer_if (is_no_string string) (refusal 0xC9) (send_to v (target_at_once our_sizes v.pef v.lan v.own.ports channel destination string))

abbrev pub clear_status : Values → Answer
clear_status v = answer_if (runs_alert v.now.running) (refusal 0xD5) (done_with StatusCleared)

-- Clear SEL (31.9): 01h tells that it is done. A record is unprocessed where it stands behind the mark.
abbrev pub cleared : List ℕ
cleared = 0x01 ∷ []

abbrev pub clear : Values → Answer
clear v =
    answer_if (nat_lt v.now.mark (length v.records) || is_some v.now.running) (refusal 0xD5)
    (record { octets = 0x00 ∷ cleared; effect = Cleared })

abbrev pub answer_by : Values → Result command.Command ℕ → Answer
answer_by v (Err code) = refusal code
answer_by v (Ok commands.Capabilities) = capabilities
answer_by v (Ok (commands.Postpone octet)) = arm v.postpone octet
answer_by v (Ok (commands.SetPef parameter payload)) = answer_to_write (set_code our_sizes v.pef parameter payload) (SetPef (write parameter payload))
answer_by v (Ok (commands.GetPef parameter revision_only set block)) =
    record { octets = get_reply our_sizes v.pef parameter revision_only set block; effect = Unchanged }
answer_by v (Ok (commands.SetLast bmc id)) = set_last v bmc id
answer_by v (Ok commands.GetLast) = get_last v
answer_by v (Ok (commands.Send channel destination string)) = send v channel destination string
answer_by v (Ok commands.SendStatus) = telling (v.now.status ∷ [])
answer_by v (Ok commands.SendClear) = clear_status v
answer_by v (Ok (commands.Acknowledge ack)) = done_with (Acked ack)
answer_by v (Ok (commands.SetLan channel parameter payload)) =
    answer_to_write (lan_rows.set_code channel parameter payload) (SetLan (record { channel = channel; parameter = parameter; payload = payload }))
answer_by v (Ok (commands.GetLan channel parameter revision_only set)) =
    record { octets = lan_rows.get_reply v.lan channel parameter set revision_only; effect = Unchanged }
answer_by v (Ok commands.ClearSel) = clear v
answer_by v (Ok commands.ClearStatus) = telling cleared

abbrev pub answer : Values → Asked → Answer
answer v asked = answer_by v (parsed asked)
