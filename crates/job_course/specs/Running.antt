-- What is said of the job that runs.
use Rattle.std.specs.Prelude.{◌≡◌, ⊤, ◌+◌, ◌<◌, ◌≤◌, List, length, Option, Some, None}
use Rattle.lan_dest.specs.Attempts.{sends, verdict, IsDue}
use Rattle.pef_match.specs.declared.target.Target.{Target}
use Rattle.job_course.specs.declared.part.Alerting.{Alerting as Alert}
use Rattle.job_course.specs.declared.part.Part.{Part}
use Rattle.job_course.specs.declared.part.Part.TheVariants.{Alerting}
use Rattle.job_course.specs.declared.counts.Counts.{Counts}
use Rattle.job_course.specs.declared.counts.Counts.TheVariants.{Heard}
use Rattle.job_course.specs.declared.turn.Turn.{Turn}
use Rattle.job_course.specs.declared.turn.Turn.TheVariants.{ToAlert}
use Rattle.job_course.specs.declared.work.Work.{Work}
use Rattle.job_course.specs.Undertaking.{set_at}

pub record Running : Type 0 where
  pub work : Work
  pub part : Part

-- An alert that is open goes on, has one of the job's targets, and at most one transmission of it is due.
pub record IsOpenAlert (targets : List Target) (alert : Alert) : Type 0 where
  pub within : alert.place < length (set_at targets alert.first)
  pub first : alert.first ≤ length targets
  pub goes_on : verdict alert.attempt ≡ None
  pub one_due : sends alert.attempt.wait alert.attempt.retries alert.attempt.ticks ≤ alert.attempt.outcomes + 1

abbrev pub IsOpenPart : List Target → Part → Type 0
IsOpenPart targets (Alerting alert) = IsOpenAlert targets alert
IsOpenPart targets part = ⊤

-- a turn that can come
abbrev pub IsTurn : List Target → Turn → Type 0
IsTurn targets (ToAlert first place) = (first ≤ length targets) × (place < length (set_at targets first))
IsTurn targets turn = ⊤

-- what may count for a part: an outcome of a transmission that is due, and a second or an acknowledgement where none is
abbrev pub MayCount : Counts → Part → Type 0
MayCount (Heard told) (Alerting alert) = IsDue alert.attempt
MayCount counts (Alerting alert) = ¬ IsDue alert.attempt
MayCount counts part = ⊤

abbrev pub MayCountNow : Counts → Option Running → Type 0
MayCountNow counts None = ⊤
MayCountNow counts (Some r) = MayCount counts r.part
