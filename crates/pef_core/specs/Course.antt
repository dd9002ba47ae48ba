-- The undertakings begun in a past, and the mark: how many records at the front of the log are processed. IPMI 2.0, sections 17.3 and
-- 17.6. Records are processed one after the other in the order of the log; a record for which nothing is to be done is processed at once.
-- Commands can move the mark, and ask for an alert at once (sections 30.5 and 30.7).
use Rattle.std.specs.Prelude.{ℕ, ◌+◌, Bool, true, false, not, ◌&&◌, ◌==◌, List, [], ◌∷◌, drop, Option, Some, None, if◌then◌else◌}
use Rattle.std.specs.Int.{bit_at}
use Rattle.event_record.specs.Fields.{octet}
use Rattle.event_record.specs.Log.{place_in}
use Rattle.lan_dest.specs.Parameters as lan
use Rattle.pef_config.specs.Places.{Tables, Control, our_sizes, guid_in}
use Rattle.pef_match.specs.AtOnce.{at_once}
use Rattle.pef_match.specs.Job.{job}
use Rattle.pef_match.specs.declared.target.Target.{Target}
use Rattle.job_course.specs.declared.counts.Counts.{Counts}
use Rattle.job_course.specs.declared.own.Own.{Own}
use Rattle.job_course.specs.Undertaking.{Undertaking, is_running, cut_of, drawn_with}
use Rattle.pef_core.specs.declared.postpone.Postpone.{Postpone}
use Rattle.pef_core.specs.declared.postpone.Postpone.TheVariants.{Disabled, Seconds}
use Rattle.pef_core.specs.Settings.{own_of}
use Rattle.pef_core.specs.Past.{Effect, Marked, Cleared, Sends, StatusCleared, Deed, effect_of, log, pef, lan_tables, delay, postpone, counts_of}

-- the undertakings, the latest first; and the status of Alert Immediate: 00h none, 01h ended with success, 03h failed, FFh pending
-- (IPMI 2.0, section 30.7)
pub record Course : Type 0 where
  pub undertakings : List Undertaking
  pub mark : ℕ
  pub status : ℕ

-- what is in force at one moment: what the settings say, and the parameters
pub record Force : Type 0 where
  pub own : Own
  pub pef : Tables
  pub lan : lan.Tables

abbrev pub force : List ℕ → List Deed → Force
force Z past = record { own = own_of Z; pef = pef Z past; lan = lan_tables past }

abbrev pub drawn_by : List Undertaking → ℕ
drawn_by [] = 0
drawn_by (u ∷ us) = drawn_with u

-- the GUID of parameter 10 where its bit 0 says so, else that of the settings
abbrev pub guid_or : Option (List ℕ) → List ℕ → List ℕ
guid_or None own = own
guid_or (Some guid) own = guid

abbrev pub guid_by : Force → List ℕ
guid_by f = guid_or (guid_in f.pef) f.own.guid

-- what is begun for this record: its job, by what is in force
abbrev pub begun : Force → ℕ → List ℕ → ℕ → Undertaking
begun f number event drawn = record { number = Some number; job = job our_sizes f.pef f.lan f.own.ports event; guid = guid_by f; drawn = drawn; since = [] }

-- an alert to this target at once
abbrev pub begun_at_once : Target → List ℕ → ℕ → Undertaking
begun_at_once target guid drawn = record { number = None; job = at_once target; guid = guid; drawn = drawn; since = [] }

abbrev pub is_busy : List Undertaking → Bool
is_busy [] = false
is_busy (u ∷ us) = is_running u

-- Behind the end of an undertaking the mark stands behind its record, if it has one; else the status tells how its alert ended.
abbrev pub mark_behind : Option ℕ → ℕ → ℕ
mark_behind None mark = mark
mark_behind (Some number) mark = number

abbrev pub status_by : Option Bool → ℕ
status_by (Some true) = 0x01
status_by result = 0x03

abbrev pub status_behind : Option ℕ → Option Bool → ℕ → ℕ
status_behind None result status = status_by result
status_behind (Some number) result status = status

-- an undertaking that goes on leaves both as they are
abbrev pub gone_on : Undertaking → List Undertaking → Course → Course
gone_on u us c = record {
  undertakings = u ∷ us;
  mark = if is_running u then c.mark else mark_behind u.number c.mark;
  status = if is_running u then c.status else status_behind u.number (cut_of u).last c.status;
}

-- it counts for the undertaking that runs
abbrev pub counted_by : Bool → Counts → Undertaking → List Undertaking → Course → Course
counted_by false counts u us c = record c { undertakings = u ∷ us }
counted_by true counts u us c = gone_on (record u { since = counts ∷ u.since }) us c

abbrev pub counted : Counts → List Undertaking → Course → Course
counted counts [] c = record c { undertakings = [] }
counted counts (u ∷ us) c = counted_by (is_running u) counts u us c

abbrev pub moved_by : Option Counts → Course → Course
moved_by None c = c
moved_by (Some counts) c = counted counts c.undertakings c

-- the number of the record of this ID, counted from 1, and 0 where there is none
abbrev pub number_at : Option ℕ → ℕ
number_at None = 0
number_at (Some place) = place + 1

abbrev pub number_of : List (List ℕ) → ℕ → ℕ
number_of records id = number_at (place_in records id)

-- what a command does to it, by the records of the log
abbrev pub with_effect : Effect → List (List ℕ) → Course → Course
with_effect (Marked id) records c = record c { mark = number_of records id }
with_effect Cleared records c = record c { mark = 0 }
with_effect (Sends target guid) records c = record c { undertakings = begun_at_once target guid (drawn_by c.undertakings) ∷ c.undertakings; status = 0xFF }
with_effect StatusCleared records c = record c { status = 0x00 }
with_effect effect records c = c

abbrev pub moved : Deed → List (List ℕ) → Course → Course
moved deed records c = moved_by (counts_of deed) (with_effect (effect_of deed) records c)

-- PEF is enabled: bit 0 of parameter 1 (IPMI 2.0, table 30-7)
abbrev pub is_enabled : Tables → Bool
is_enabled tables = bit_at (octet 1 (tables Control)) 0 == 1

-- the postpone timer holds nothing
abbrev pub is_over : Postpone → Bool
is_over Disabled = false
is_over (Seconds left) = left == 0

-- PEF is enabled, the startup delay is over, and the postpone timer holds nothing
abbrev pub may_begin : Tables → ℕ → Postpone → Bool
may_begin tables delay timer = is_enabled tables && ((delay == 0) && is_over timer)

-- The job of a record is begun. Where nothing is to be done for it, it is over, and the next record's turn comes.
abbrev pub begin_job : (Course → Course) → ℕ → Undertaking → Course → Course
begin_job go_on number u c =
    if is_running u
    then record c { undertakings = u ∷ c.undertakings }
    else go_on (record c { undertakings = u ∷ c.undertakings; mark = number })

-- the jobs of these records, which stand behind the mark, up to the first that goes on
abbrev pub begin_jobs : Force → List (List ℕ) → Course → Course
begin_jobs f [] c = c
begin_jobs f (event ∷ events) c = begin_job (begin_jobs f events) (c.mark + 1) (begun f (c.mark + 1) event (drawn_by c.undertakings)) c

-- A job may begin where none runs, nor an alert at once.
abbrev pub next_job : Force → Bool → List (List ℕ) → Course → Course
next_job f may records c = if not (is_busy c.undertakings) && may then begin_jobs f (drop c.mark records) c else c

abbrev pub course : List ℕ → List Deed → Course
course Z [] = record { undertakings = []; mark = 0; status = 0x00 }
course Z (deed ∷ past) =
    next_job (force Z (deed ∷ past)) (may_begin (pef Z (deed ∷ past)) (delay Z (deed ∷ past)) (postpone (deed ∷ past))) (log (deed ∷ past))
    (moved deed (log past) (course Z past))
