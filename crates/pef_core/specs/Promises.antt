-- What the standard promises of event filtering, said of the course of any past or history: IPMI 2.0, sections 17.3, 17.6 and 30.5 to 30.7.
use Rattle.std.specs.Prelude.{◌≡◌, ◌⊎◌, ⊤, ℕ, zero, suc, ◌+◌, Bool, true, false, List, [], ◌∷◌, ◌++◌, length, Option, Some, None, if◌then◌else◌}
use Rattle.pef_config.specs.Places.{our_sizes}
use Rattle.pef_match.specs.Job.{job}
use Rattle.job_course.specs.declared.counts.Counts.{Counts}
use Rattle.job_course.specs.declared.counts.Counts.TheVariants.{Heard}
use Rattle.job_course.specs.declared.own.Own.{Own}
use Rattle.job_course.specs.declared.turn.Turn.TheVariants.{ToAlert}
use Rattle.job_course.specs.Counting.{all_seconds}
use Rattle.job_course.specs.Steps.{trap_step}
use Rattle.job_course.specs.Undertaking.{Undertaking, target_at, is_running, cut_of, turn_of}
use Rattle.pef_core.specs.Settings.{ports_of}
use Rattle.pef_engine.specs.declared.entry.Entry.{Entry}
use Rattle.pef_match.specs.AtOnce.{at_once}
use Rattle.pef_match.specs.declared.target.Target.{Target}
use Rattle.pef_core.specs.declared.item.Item.{Item}
use Rattle.pef_core.specs.Past.{Effect, Marked, Cleared, Sends, Deed, Replied, effect_of, log, pef, lan_tables}
use Rattle.pef_core.specs.Deeds.{deed}
use Rattle.board_core.specs.declared.step.Told.{Told}
use Rattle.board_core.specs.declared.step.Step.{Step}
use Rattle.pef_core.specs.Values.{values, alert_in, work_in}
use Rattle.pef_core.specs.Course.{Course, force, guid_by, mark_behind}

-- the numbers of the records of these undertakings, the latest first; an alert at once has none
abbrev pub onto : Option ℕ → List ℕ → List ℕ
onto None numbers = numbers
onto (Some number) numbers = number ∷ numbers

abbrev pub numbers : List Undertaking → List ℕ
numbers [] = []
numbers (u ∷ us) = onto u.number (numbers us)

-- the number of the record whose job runs, else the mark: so far processing has come
abbrev pub reached_by : List Undertaking → ℕ → ℕ
reached_by [] mark = mark
reached_by (u ∷ us) mark = if is_running u then mark_behind u.number mark else mark

abbrev pub reached : Course → ℕ
reached c = reached_by c.undertakings c.mark

-- so many numbers, from the one behind this one on, the latest first
abbrev pub numbers_behind : ℕ → ℕ → List ℕ
numbers_behind start zero = []
numbers_behind start (suc count) = (start + suc count) ∷ numbers_behind start count

-- Between these moments so many records' jobs were begun: the next one, the one behind it, and so on; none is skipped.
pub record GoesInOrder (before after : Course) : Type 0 where
  pub count : ℕ
  pub numbered : numbers after.undertakings ≡ numbers_behind (reached before) count ++ numbers before.undertakings
  pub reaches : reached after ≡ reached before + count

-- Set Last Processed Event ID and Clear SEL move the mark.
abbrev pub moves_mark : Effect → Bool
moves_mark (Marked id) = true
moves_mark Cleared = true
moves_mark effect = false

-- none of these entries behind a past moves it
abbrev pub NoneMoves : List ℕ → List Deed → List (Entry Item) → Type 0
NoneMoves Z past [] = ⊤
NoneMoves Z past (entry ∷ H) = (moves_mark (effect_of (deed (values Z past) entry)) ≡ false) × NoneMoves Z (deed (values Z past) entry ∷ past) H

-- The undertaking began at a place in the past. Its job is that of its record, by the parameters that stood there, and its traps tell the
-- GUID that was in force there: what was written later changes nothing in it.
pub record BeganFor (Z : List ℕ) (past : List Deed) (u : Undertaking) : Type 0 where
  pub later : List Deed
  pub start : List Deed
  pub place : past ≡ later ++ start
  pub before : List (List ℕ)
  pub event : List ℕ
  pub behind : List (List ℕ)
  pub records : log start ≡ before ++ event ∷ behind
  pub number : u.number ≡ Some (length before + 1)
  pub job_is : u.job ≡ job our_sizes (pef Z start) (lan_tables start) (ports_of Z) event
  pub guid_is : u.guid ≡ guid_by (force Z start)

-- An alert at once began with the command that asked for it: it goes to this target and tells this GUID.
pub record BeganAtOnce (past : List Deed) (u : Undertaking) : Type 0 where
  pub later : List Deed
  pub octets : List ℕ
  pub target : Target
  pub start : List Deed
  pub place : past ≡ later ++ Replied octets (Sends target u.guid) ∷ start
  pub number : u.number ≡ None
  pub job_is : u.job ≡ at_once target

-- each of them began in the one way or in the other
abbrev pub AllBegan : List ℕ → List Deed → List Undertaking → Type 0
AllBegan Z past [] = ⊤
AllBegan Z past (u ∷ us) = (BeganFor Z past u ⊎ BeganAtOnce past u) × AllBegan Z past us

-- with one more outcome
abbrev pub heard_by : Told → Undertaking → Undertaking
heard_by told u = record u { since = Heard told ∷ u.since }

-- an undertaking with what counted for it later, the latest first
abbrev pub with_later : List Counts → Undertaking → Undertaking
with_later later u = record u { since = later ++ u.since }

-- the datagram of the alert that is open at this moment, for this target
abbrev pub trap_at : Own → ℕ → Undertaking → ℕ → ℕ → Step
trap_at own now u first place = trap_step own (work_in u) (alert_in now u (cut_of u) first place) (target_at u.job.targets first place)

-- As long as no further alert is over, the alert that is open stays open, and its datagram is the same at each moment.
pub record IsSent (own : Own) (now : ℕ) (u : Undertaking) (later : List Counts) (first place : ℕ) : Type 0 where
  pub open_still : turn_of (with_later later u) ≡ Some (ToAlert first place)
  pub same : trap_at own (now + all_seconds later) (with_later later u) first place ≡ trap_at own now u first place
