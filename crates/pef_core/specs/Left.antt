-- How many steps may still be issued before the next item. Of the alert that is open at most the transmissions that are due now, for a
-- retry waits for a tick; of each alert behind it one; and so 18 at most for a record: its act, 16 alerts and the OEM action. Each reply to
-- a frame is one more.
use Rattle.std.specs.Prelude.{ℕ, ◌+◌, ◌-◌, ◌*◌, length, Option, Some, None, if◌then◌else◌}
use Rattle.lan_dest.specs.Attempts.{sends}
use Rattle.pef_match.specs.Parts.{Parts}
use Rattle.job_course.specs.declared.part.Part.{Part}
use Rattle.job_course.specs.declared.part.Part.TheVariants.{Acting, Alerting, OemAction}
use Rattle.job_course.specs.declared.progress.Progress.{Progress}
use Rattle.job_course.specs.declared.progress.Progress.TheVariants.{GoesOn, Ended}
use Rattle.job_course.specs.declared.turn.Turn.{Turn}
use Rattle.job_course.specs.declared.turn.Turn.TheVariants.{ToAct, ToAlert, ToOemAction}
use Rattle.job_course.specs.Running.{Running}
use Rattle.pef_core.specs.Course.{mark_behind}
use Rattle.pef_core.specs.Values.{Values}

abbrev pub oem_left : Parts → ℕ
oem_left job = if job.oem then 1 else 0

-- the steps of a job from this part on
abbrev pub part_left : Parts → Part → ℕ
part_left job (Acting act) = 1 + (length job.targets + oem_left job)
part_left job (Alerting alert) =
    sends alert.attempt.wait alert.attempt.retries alert.attempt.ticks - alert.attempt.outcomes
    + (length job.targets - (alert.first + alert.place + 1) + oem_left job)
part_left job OemAction = 1

-- the steps of a job from this turn on
abbrev pub turn_left : Parts → Option Turn → ℕ
turn_left job None = 0
turn_left job (Some (ToAct act)) = 1 + (length job.targets + oem_left job)
turn_left job (Some (ToAlert first place)) = 1 + (length job.targets - (first + place + 1) + oem_left job)
turn_left job (Some ToOemAction) = 1

abbrev pub progress_left : Progress → ℕ
progress_left (GoesOn r) = part_left r.work.job r.part
progress_left (Ended work turn result) = turn_left work.job turn

-- what runs, and 18 for each record behind it, of so many
abbrev pub now_left : Option Running → ℕ → ℕ → ℕ
now_left None mark records = 18 * (records - mark)
now_left (Some r) mark records = part_left r.work.job r.part + 18 * (records - mark_behind r.work.number mark)

abbrev pub left : Values → ℕ
left v = length v.replies + now_left v.now.running v.now.mark (length v.records)
