-- How a job goes on: the part that begins, and the open part with what counts for it now.
use Rattle.std.specs.Prelude.{ℕ, ◌+◌, Bool, ◌==◌, List, ⊤, Option, Some, None, IfSome, if◌then◌else◌}
use Rattle.lan_dest.specs.Attempts.{Counted, verdict, begun as begun_attempt, heard, answered, is_done}
use Rattle.lan_dest.specs.declared.destination.Destination.{Destination}
use Rattle.alert_trap.specs.Acknowledgement.{ack_awaited}
use Rattle.pet_body.specs.declared.ack.PetAck.{PetAck}
use Rattle.pef_match.specs.Parts.{Parts}
use Rattle.job_course.specs.declared.counts.Counts.{Counts}
use Rattle.job_course.specs.declared.counts.Counts.TheVariants.{Second, Ack, Heard}
use Rattle.job_course.specs.declared.part.Alerting.{Alerting as Alert}
use Rattle.job_course.specs.declared.part.Part.{Part}
use Rattle.job_course.specs.declared.part.Part.TheVariants.{Acting, Alerting, OemAction}
use Rattle.job_course.specs.declared.progress.Progress.{Progress}
use Rattle.job_course.specs.declared.progress.Progress.TheVariants.{GoesOn, Ended}
use Rattle.job_course.specs.declared.turn.Turn.{Turn}
use Rattle.job_course.specs.declared.turn.Turn.TheVariants.{ToAct, ToAlert, ToOemAction}
use Rattle.job_course.specs.Counting.{same_ack}
use Rattle.job_course.specs.Undertaking.{target_at}
use Rattle.job_course.specs.Running.{Running, IsTurn}
use Rattle.job_course.specs.Turns.{turn_behind}

-- the part that begins, with this sequence number and time-stamp where it is an alert
abbrev pub attempt_of : Destination → Counted
attempt_of to = begun_attempt to.acknowledged to.wait to.retries

abbrev pub part_begun : Parts → ℕ → ℕ → Turn → Part
part_begun job sequence stamp (ToAct act) = Acting act
part_begun job sequence stamp (ToAlert first place) =
    Alerting (record { first = first; place = place; sequence = sequence; stamp = stamp; attempt = attempt_of (target_at job.targets first place).to })
part_begun job sequence stamp ToOemAction = OemAction

-- one second more for an alert, whose seconds count from its first outcome on; an acknowledgement; an outcome
abbrev pub attempt_after : Counts → PetAck → Counted → Counted
attempt_after Second wanted attempt = record attempt { ticks = if attempt.outcomes == 0 then 0 else attempt.ticks + 1 }
attempt_after (Ack ack) wanted attempt = if same_ack ack wanted then answered attempt else attempt
attempt_after (Heard told) wanted attempt = heard told attempt

abbrev pub alert_after : Counts → Option (List ℕ) → Alert → Alert
alert_after counts event alert = record alert { attempt = attempt_after counts (ack_awaited alert.sequence event) alert.attempt }

abbrev pub outcome_of : Counts → Option Bool
outcome_of (Heard told) = Some (is_done told)
outcome_of counts = None

-- the part that is open with what counts now, and how it ends then
abbrev pub part_after : Counts → Option (List ℕ) → Part → Part
part_after counts event (Alerting alert) = Alerting (alert_after counts event alert)
part_after counts event part = part

abbrev pub result_after : Counts → Option (List ℕ) → Part → Option Bool
result_after counts event (Alerting alert) = verdict (alert_after counts event alert).attempt
result_after counts event part = outcome_of counts

-- a part with a result is over
abbrev pub progress_by : Counts → Running → Option Bool → Progress
progress_by counts r None = GoesOn (record r { part = part_after counts r.work.job.event r.part })
progress_by counts r (Some result) = Ended r.work (turn_behind r.work.job r.part result) result

abbrev pub progress : Counts → Running → Progress
progress counts r = progress_by counts r (result_after counts r.work.job.event r.part)

-- a turn that comes is one that can
abbrev pub IsProgress : Progress → Type 0
IsProgress (GoesOn r) = ⊤
IsProgress (Ended work turn result) = IfSome turn (λ turn. IsTurn work.job.targets turn)
