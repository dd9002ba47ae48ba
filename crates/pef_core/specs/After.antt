-- What stands after one more deed, by what stood before it: the controller goes on by these. That they agree with the past is proved
-- (`standing_next`).
use Rattle.std.specs.Prelude.{ℕ, ◌+◌, ◌-◌, ◌%◌, Bool, not, ◌&&◌, ◌==◌, List, [], ◌∷◌, drop, Option, Some, None, is_some, if◌then◌else◌}
use Rattle.lan_dest.specs.Parameters as lan
use Rattle.pef_config.specs.Places.{Write, Tables, our_sizes, last_or, written, powered}
use Rattle.pef_match.specs.declared.target.Target.{Target}
use Rattle.pef_match.specs.AtOnce.{at_once}
use Rattle.pef_match.specs.Job.{job}
use Rattle.job_course.specs.declared.counts.Counts.{Counts}
use Rattle.job_course.specs.declared.progress.Progress.{Progress}
use Rattle.job_course.specs.declared.progress.Progress.TheVariants.{GoesOn, Ended}
use Rattle.job_course.specs.declared.turn.Turn.{Turn}
use Rattle.job_course.specs.declared.turn.Turn.TheVariants.{ToAlert}
use Rattle.job_course.specs.declared.work.Work.{Work}
use Rattle.job_course.specs.Running.{Running}
use Rattle.job_course.specs.Turns.{first_turn}
use Rattle.job_course.specs.Progress.{part_begun, progress}
use Rattle.pef_core.specs.declared.postpone.Postpone.{Postpone}
use Rattle.pef_core.specs.declared.postpone.Postpone.TheVariants.{Seconds}
use Rattle.pef_core.specs.Past.{Effect, Marked, Cleared, Sends, StatusCleared, Deed, Ticked, Powered, effect_of, records_with, pef_written, lan_written, delay_by, armed_in, set_or, less_by, software_with, note_with, reply_with, replies_with, counts_of}
use Rattle.pef_core.specs.Course.{Force, guid_by, mark_behind, status_behind, number_of, may_begin}
use Rattle.pef_core.specs.Values.{Now, Values, stamp_at, force_of}

-- what these writes put at each place, and elsewhere what was there
abbrev pub pef_behind : List Write → Tables → Tables
pef_behind [] tables = tables
pef_behind (write ∷ writes) tables = λ place. last_or (pef_behind writes tables place) (written write place)

abbrev pub lan_behind : List lan.Write → lan.Tables → lan.Tables
lan_behind [] tables = tables
lan_behind (write ∷ writes) tables = lan.written write (lan_behind writes tables)

abbrev pub pef_after : Deed → Tables → Tables
pef_after Powered tables = powered tables
pef_after deed tables = pef_behind (pef_written (effect_of deed)) tables

abbrev pub lan_after : Deed → lan.Tables → lan.Tables
lan_after Powered tables = lan.powered tables
lan_after deed tables = lan_behind (lan_written (effect_of deed)) tables

abbrev pub ticks_after : Deed → ℕ → ℕ
ticks_after Ticked ticks = (ticks + 1) % 4294967296
ticks_after deed ticks = ticks

abbrev pub delay_after : Deed → Tables → ℕ → ℕ
delay_after Ticked tables delay = delay - 1
delay_after Powered tables delay = delay_by tables
delay_after deed tables delay = delay

abbrev pub postpone_after : Deed → Postpone → Postpone
postpone_after Ticked timer = less_by 1 timer
postpone_after Powered timer = Seconds 0
postpone_after deed timer = set_or timer (armed_in (effect_of deed))

-- 65535 is followed by 1
abbrev pub following : ℕ → ℕ
following sequence = if sequence == 65535 then 1 else sequence + 1

abbrev pub sequence_after : Turn → ℕ → ℕ
sequence_after (ToAlert first place) sequence = following sequence
sequence_after turn sequence = sequence

-- what was begun goes on with this turn, or is over, where its last part ended so
abbrev pub begins : Work → ℕ → Option Turn → Option Bool → Now → Now
begins work stamp None last n = record n { running = None; mark = mark_behind work.number n.mark; status = status_behind work.number last n.status }
begins work stamp (Some turn) last n = record n {
  running = Some (record { work = work; part = part_begun work.job n.sequence stamp turn });
  sequence = sequence_after turn n.sequence;
}

abbrev pub now_with : ℕ → Progress → Now → Now
now_with stamp (GoesOn r) n = record n { running = Some r }
now_with stamp (Ended work turn result) n = begins work stamp turn (Some result) n

abbrev pub counted_now : Counts → ℕ → Option Running → Now → Now
counted_now counts stamp None n = n
counted_now counts stamp (Some r) n = now_with stamp (progress counts r) n

abbrev pub moved_by : Option Counts → ℕ → Now → Now
moved_by None stamp n = n
moved_by (Some counts) stamp n = counted_now counts stamp n.running n

-- an alert to this target at once
abbrev pub work_at_once : Target → List ℕ → Work
work_at_once target guid = record { number = None; job = at_once target; guid = guid }

-- what a command does to it, by the records of the log
abbrev pub now_with_effect : Effect → ℕ → List (List ℕ) → Now → Now
now_with_effect (Marked id) stamp records n = record n { mark = number_of records id }
now_with_effect Cleared stamp records n = record n { mark = 0 }
now_with_effect (Sends target guid) stamp records n = begins (work_at_once target guid) stamp (Some (ToAlert 0 0)) None (record n { status = 0xFF })
now_with_effect StatusCleared stamp records n = record n { status = 0x00 }
now_with_effect effect stamp records n = n

-- the jobs of these records begun, where none runs
abbrev pub work_of : Force → ℕ → List ℕ → Work
work_of f number event = record { number = Some number; job = job our_sizes f.pef f.lan f.own.ports event; guid = guid_by f }

abbrev pub begin_with : (Now → Now) → ℕ → Work → ℕ → Option Turn → Now → Now
begin_with go_on number work stamp None n = go_on (record n { mark = number })
begin_with go_on number work stamp (Some turn) n = begins work stamp (Some turn) None n

abbrev pub begin_jobs_now : Force → ℕ → List (List ℕ) → Now → Now
begin_jobs_now f stamp [] n = n
begin_jobs_now f stamp (event ∷ events) n =
    begin_with (begin_jobs_now f stamp events) (n.mark + 1) (work_of f (n.mark + 1) event) stamp (first_turn (work_of f (n.mark + 1) event).job) n

-- where none runs: with the jobs of the records behind the mark begun
abbrev pub begun : Values → Values
begun v = record v { now = begin_jobs_now (force_of v) (stamp_at v.ticks) (drop v.now.mark v.records) v.now }

-- with what the deed itself does
abbrev pub with_deed : Deed → Values → Values
with_deed d v = record {
  own = v.own;
  pef = pef_after d v.pef;
  lan = lan_after d v.lan;
  ticks = ticks_after d v.ticks;
  delay = delay_after d (pef_after d v.pef) v.delay;
  postpone = postpone_after d v.postpone;
  records = records_with d v.records;
  software = software_with (effect_of d) v.software;
  note = note_with d v.note;
  reply = reply_with d v.reply;
  replies = replies_with d v.replies;
  now = moved_by (counts_of d) (stamp_at (ticks_after d v.ticks)) (now_with_effect (effect_of d) (stamp_at v.ticks) v.records v.now);
}

-- a job may begin
abbrev pub may_begin_now : Values → Bool
may_begin_now v = may_begin v.pef v.delay v.postpone

-- and with the job that begins then, where none runs and none is held
abbrev pub with_next_job : Values → Values
with_next_job v = if not (is_some v.now.running) && may_begin_now v then begun v else v

abbrev pub values_after : Deed → Values → Values
values_after d v = with_next_job (with_deed d v)
