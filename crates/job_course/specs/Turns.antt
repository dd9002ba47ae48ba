-- Whose turn comes in a job, by the part that is over and its result. That these agree with `turn_at` is proved (`turn_continues`).
use Rattle.std.specs.Prelude.{ℕ, ◌+◌, Bool, nat_lt, length, drop, Option, Some, None, if◌then◌else◌}
use Rattle.policy_walk.specs.First.{first_tried}
use Rattle.policy_walk.specs.Tried.{Any}
use Rattle.pef_match.specs.Parts.{Parts}
use Rattle.job_course.specs.declared.part.Part.{Part}
use Rattle.job_course.specs.declared.part.Part.TheVariants.{Acting, Alerting, OemAction}
use Rattle.job_course.specs.declared.turn.Turn.{Turn}
use Rattle.job_course.specs.declared.turn.Turn.TheVariants.{ToAlert}
use Rattle.job_course.specs.Undertaking.{set_at, stops_at, first_stage, turn_in, turn_at}

-- the turn behind a part of a job: of an alert the next of its set, or the first of the next set, or the OEM action
abbrev pub turn_from : Parts → ℕ → Option Turn
turn_from job first = if nat_lt first (length job.targets) then Some (ToAlert first 0) else turn_in job first None

abbrev pub turn_or_next : Parts → ℕ → Option ℕ → Option Turn
turn_or_next job first (Some place) = Some (ToAlert first place)
turn_or_next job first None = turn_from job (first + length (set_at job.targets first))

abbrev pub turn_behind : Parts → Part → Bool → Option Turn
turn_behind job (Acting act) result = turn_from job 0
turn_behind job (Alerting alert) result =
    turn_or_next job alert.first (first_tried Any result (alert.place + 1) (drop (alert.place + 1) (stops_at job.targets alert.first)))
turn_behind job OemAction result = None

abbrev pub first_turn : Parts → Option Turn
first_turn job = turn_at job (first_stage job.act)
