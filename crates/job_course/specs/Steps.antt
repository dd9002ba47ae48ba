-- The step of the part that is open.
use Rattle.std.specs.Prelude.{ℕ, Bool, nat_lt, List, Option, Some, None, if◌then◌else◌}
use Rattle.board_core.specs.declared.step.Act.TheVariants.{Oem}
use Rattle.board_core.specs.declared.step.Step.{Step}
use Rattle.board_core.specs.declared.step.Step.TheVariants.{Act, Datagram}
use Rattle.event_record.specs.Fields.{record_id}
use Rattle.alert_trap.specs.Trap.{trap_octets}
use Rattle.lan_dest.specs.Attempts.{Counted, sends}
use Rattle.pef_match.specs.declared.target.Target.{Target}
use Rattle.job_course.specs.declared.own.Own.{Own}
use Rattle.job_course.specs.declared.part.Alerting.{Alerting as Alert}
use Rattle.job_course.specs.declared.part.Part.{Part}
use Rattle.job_course.specs.declared.part.Part.TheVariants.{Acting, Alerting, OemAction}
use Rattle.job_course.specs.declared.work.Work.{Work}
use Rattle.job_course.specs.Undertaking.{target_at}

-- a transmission is due
abbrev pub is_due : Counted → Bool
is_due attempt = nat_lt attempt.outcomes (sends attempt.wait attempt.retries attempt.ticks)

-- the datagram of an alert: the trap of its target, with the sequence number and the time-stamp that it drew
abbrev pub trap_step : Own → Work → Alert → Target → Step
trap_step own work alert target = Datagram target.to.to
    (trap_octets own.origin (record { guid = work.guid; sequence = alert.sequence; stamp = alert.stamp }) work.job.event target.severity target.text target.to.community)

-- the record that an action is for; an alert at once has none, and no action
abbrev pub id_of : Option (List ℕ) → ℕ
id_of None = 0x0000
id_of (Some event) = record_id event

-- the step of a part that is open
abbrev pub part_step : Own → Work → Part → Option Step
part_step own work (Acting act) = Some (Act act (id_of work.job.event))
part_step own work (Alerting alert) =
    if is_due alert.attempt then Some (trap_step own work alert (target_at work.job.targets alert.first alert.place)) else None
part_step own work OemAction = Some (Act Oem (id_of work.job.event))
