-- What each entry of a history did, the latest first: its past. An event, a command or a frame that was refused changed nothing. What
-- stands after a history is read off its past alone.
use Rattle.std.specs.Prelude.{ℕ, ◌+◌, ◌-◌, ◌==◌, List, [], ◌∷◌, ◌++◌, drop, Option, Some, None, option_map, is_some, if◌then◌else◌}
use Rattle.std.specs.Int.{bit_at}
use Rattle.board_core.specs.declared.step.Step.{Step}
use Rattle.board_core.specs.declared.step.Told.{Told}
use Rattle.event_record.specs.Fields.{octet, record_id}
use Rattle.lan_dest.specs.Parameters as lan
use Rattle.pef_config.specs.Places.{Write, Tables, Control, Delay, our_sizes, value, power_writes}
use Rattle.pef_match.specs.declared.target.Target.{Target}
use Rattle.pet_body.specs.declared.ack.PetAck.{PetAck}
use Rattle.job_course.specs.declared.counts.Counts.{Counts}
use Rattle.job_course.specs.declared.counts.Counts.TheVariants.{Second, Ack, Heard}
use Rattle.pef_core.specs.Settings.{initial_of}
use Rattle.pef_core.specs.declared.note.Note.{Note}
use Rattle.pef_core.specs.declared.note.Note.TheVariants.{Added, Nothing}
use Rattle.pef_core.specs.declared.postpone.Postpone.{Postpone}
use Rattle.pef_core.specs.declared.postpone.Postpone.TheVariants.{Disabled, Seconds}

-- What a command changed: nothing, or a parameter that it wrote; or it acknowledged a trap. It armed the postpone timer, or disabled PEF for
-- the time being. It moved the mark behind the record of this ID, or before all for 0000h; or it set the ID that software says it
-- processed last. It cleared the log. It sends an alert to this target at once, which tells this GUID; or it cleared the status of such an
-- alert.
pub data Effect : Type 0 where
  Unchanged : Effect
  SetPef : Write → Effect
  SetLan : lan.Write → Effect
  Acked : PetAck → Effect
  Armed : Postpone → Effect
  Marked : ℕ → Effect
  SoftwareMarked : ℕ → Effect
  Cleared : Effect
  Sends : Target → List ℕ → Effect
  StatusCleared : Effect

-- An event record joined the log, or was refused for a reason; a command got its reply; a frame is answered by these datagrams, or by none,
-- and acknowledged this trap, or none; a script was opened or closed; a second passed; the power was cycled; a step had its outcome; a reply
-- to a frame had its own.
pub data Deed : Type 0 where
  Logged : List ℕ → Deed
  Dropped : Note → Deed
  Replied : List ℕ → Effect → Deed
  Framed : List Step → Option PetAck → Deed
  Passed : Deed
  Ticked : Deed
  Powered : Deed
  WasTold : Told → Deed
  ReplySent : Deed

abbrev pub effect_of : Deed → Effect
effect_of (Replied octets effect) = effect
effect_of deed = Unchanged

-- the records of the system event log, in the order in which they were added
abbrev pub cleared_by : Effect → List (List ℕ) → List (List ℕ)
cleared_by Cleared records = []
cleared_by effect records = records

abbrev pub records_with : Deed → List (List ℕ) → List (List ℕ)
records_with (Logged event) records = records ++ event ∷ []
records_with deed records = cleared_by (effect_of deed) records

abbrev pub log : List Deed → List (List ℕ)
log [] = []
log (deed ∷ past) = records_with deed (log past)

-- Power counts as writes of zeros to what is volatile: beside those of PEF configuration parameters, to destination 0 of both channels.
abbrev pub lan_power_writes : List lan.Write
lan_power_writes = lan.zeros_to 1 18 ∷ lan.zeros_to 1 19 ∷ lan.zeros_to 2 18 ∷ lan.zeros_to 2 19 ∷ []

-- the accepted writes of PEF configuration parameters, the latest first
abbrev pub pef_written : Effect → List Write
pef_written (SetPef write) = write ∷ []
pef_written effect = []

abbrev pub pef_writes_in : Deed → List Write
pef_writes_in Powered = power_writes
pef_writes_in deed = pef_written (effect_of deed)

abbrev pub pef_writes : List Deed → List Write
pef_writes [] = []
pef_writes (deed ∷ past) = pef_writes_in deed ++ pef_writes past

-- the accepted writes of LAN configuration parameters, the latest first
abbrev pub lan_written : Effect → List lan.Write
lan_written (SetLan write) = write ∷ []
lan_written effect = []

abbrev pub lan_writes_in : Deed → List lan.Write
lan_writes_in Powered = lan_power_writes
lan_writes_in deed = lan_written (effect_of deed)

abbrev pub lan_writes : List Deed → List lan.Write
lan_writes [] = []
lan_writes (deed ∷ past) = lan_writes_in deed ++ lan_writes past

-- what stands at each place of the PEF configuration parameters: what was written there last, or the initial value
abbrev pub pef : List ℕ → List Deed → Tables
pef Z past = value our_sizes (initial_of Z) (pef_writes past)

-- the same of the LAN configuration parameters
abbrev pub lan_tables : List Deed → lan.Tables
lan_tables past = lan.value (lan_writes past)

-- with one second more, where one passed
abbrev pub counted_on : Deed → ℕ → ℕ
counted_on Ticked seconds = seconds + 1
counted_on deed seconds = seconds

-- the seconds so far
abbrev pub ticks : List Deed → ℕ
ticks [] = 0
ticks (deed ∷ past) = counted_on deed (ticks past)

-- The startup delay is parameter 3 where bit 2 of parameter 1 is 1 (IPMI 2.0, table 30-7). It is set at the start and when the power is
-- cycled, and is less by each second since then.
abbrev pub delay_by : Tables → ℕ
delay_by tables = if bit_at (octet 1 (tables Control)) 2 == 1 then octet 1 (tables Delay) else 0

abbrev pub delay_set : List ℕ → List Deed → ℕ
delay_set Z [] = delay_by (pef Z [])
delay_set Z (Powered ∷ past) = delay_by (pef Z (Powered ∷ past))
delay_set Z (deed ∷ past) = delay_set Z past

abbrev pub seconds_on : List Deed → ℕ
seconds_on [] = 0
seconds_on (Powered ∷ past) = 0
seconds_on (deed ∷ past) = counted_on deed (seconds_on past)

abbrev pub delay : List ℕ → List Deed → ℕ
delay Z past = delay_set Z past - seconds_on past

-- The postpone timer: what Arm PEF Postpone Timer set last (IPMI 2.0, section 30.2), and 0 at the start and when the power is cycled; less
-- by each second since then. That the timer falls at every second is this project's rule.
abbrev pub armed_in : Effect → Option Postpone
armed_in (Armed timer) = Some timer
armed_in effect = None

abbrev pub timer_in : Deed → Option Postpone
timer_in Powered = Some (Seconds 0)
timer_in deed = armed_in (effect_of deed)

abbrev pub set_or : Postpone → Option Postpone → Postpone
set_or earlier None = earlier
set_or earlier (Some timer) = timer

abbrev pub timer_set : List Deed → Postpone
timer_set [] = Seconds 0
timer_set (deed ∷ past) = set_or (timer_set past) (timer_in deed)

abbrev pub seconds_armed : List Deed → ℕ
seconds_armed [] = 0
seconds_armed (deed ∷ past) = if is_some (timer_in deed) then 0 else counted_on deed (seconds_armed past)

abbrev pub less_by : ℕ → Postpone → Postpone
less_by seconds Disabled = Disabled
less_by seconds (Seconds left) = Seconds (left - seconds)

abbrev pub postpone : List Deed → Postpone
postpone past = less_by (seconds_armed past) (timer_set past)

-- the ID that software says it processed last, 0000h for none (IPMI 2.0, section 30.5); it has no other effect
abbrev pub software_with : Effect → ℕ → ℕ
software_with (SoftwareMarked id) before = id
software_with Cleared before = 0x0000
software_with effect before = before

abbrev pub software : List Deed → ℕ
software [] = 0x0000
software (deed ∷ past) = software_with (effect_of deed) (software past)

-- the trap that a command acknowledged
abbrev pub acked_in : Effect → Option PetAck
acked_in (Acked ack) = Some ack
acked_in effect = None

-- what of a deed counts for a job that runs; the outcome of a reply to a frame doesn't
abbrev pub counts_of : Deed → Option Counts
counts_of Ticked = Some Second
counts_of (Replied octets effect) = option_map Ack (acked_in effect)
counts_of (Framed replies ack) = option_map Ack ack
counts_of (WasTold told) = Some (Heard told)
counts_of deed = None

-- what the last item did to the log; an outcome leaves it as it is
abbrev pub note_with : Deed → Note → Note
note_with (Logged event) before = Added (record_id event)
note_with (Dropped why) before = why
note_with (WasTold told) before = before
note_with ReplySent before = before
note_with deed before = Nothing

abbrev pub note : List Deed → Note
note [] = Nothing
note (deed ∷ past) = note_with deed (note past)

-- the reply to the last item, where that was a command
abbrev pub reply_with : Deed → Option (List ℕ) → Option (List ℕ)
reply_with (Replied octets effect) before = Some octets
reply_with (WasTold told) before = before
reply_with ReplySent before = before
reply_with deed before = None

abbrev pub reply : List Deed → Option (List ℕ)
reply [] = None
reply (deed ∷ past) = reply_with deed (reply past)

-- the replies to the last frame that aren't sent yet, the next one in front
abbrev pub replies_with : Deed → List Step → List Step
replies_with (Framed replies ack) before = replies
replies_with ReplySent before = drop 1 before
replies_with deed before = before

abbrev pub replies : List Deed → List Step
replies [] = []
replies (deed ∷ past) = replies_with deed (replies past)
