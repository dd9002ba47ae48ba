-- What stands after a past: all that a controller shows of its history.
use Rattle.std.specs.Prelude.{ℕ, ◌+◌, ◌-◌, ◌*◌, ◌%◌, List, [], ◌∷◌, Option, Some, None}
use Rattle.board_core.specs.declared.step.Step.{Step}
use Rattle.lan_dest.specs.Parameters as lan
use Rattle.pef_config.specs.Places.{Tables}
use Rattle.job_course.specs.declared.own.Own.{Own}
use Rattle.job_course.specs.declared.part.Alerting.{Alerting as Alert}
use Rattle.job_course.specs.declared.part.Part.{Part}
use Rattle.job_course.specs.declared.part.Part.TheVariants.{Acting, Alerting, OemAction}
use Rattle.job_course.specs.declared.turn.Turn.{Turn}
use Rattle.job_course.specs.declared.turn.Turn.TheVariants.{ToAct, ToAlert, ToOemAction}
use Rattle.job_course.specs.declared.work.Work.{Work}
use Rattle.job_course.specs.Counting.{all_seconds}
use Rattle.job_course.specs.Undertaking.{Undertaking, Cut, cut_of, turn_of, alert_at, sequence_behind}
use Rattle.job_course.specs.Running.{Running}
use Rattle.pef_core.specs.declared.note.Note.{Note}
use Rattle.pef_core.specs.declared.postpone.Postpone.{Postpone}
use Rattle.pef_core.specs.Settings.{own_of}
use Rattle.pef_core.specs.Past.{Deed, log, pef, lan_tables, ticks, delay, postpone, software, note, reply, replies}
use Rattle.pef_core.specs.Course.{Course, Force, drawn_by, course}

-- where the course stands: the job that runs with its open part, the mark, the sequence number that the next alert draws, and the status of
-- Alert Immediate
pub record Now : Type 0 where
  pub running : Option Running
  pub mark : ℕ
  pub sequence : ℕ
  pub status : ℕ

pub record Values : Type 0 where
  pub own : Own
  pub pef : Tables
  pub lan : lan.Tables
  pub ticks : ℕ
  pub delay : ℕ
  pub postpone : Postpone
  pub records : List (List ℕ)
  pub software : ℕ
  pub note : Note
  pub reply : Option (List ℕ)
  pub replies : List Step
  pub now : Now

-- the time-stamp after so many seconds, in hundredths of a second, of 32 bits (RFC 1157, section 4.1.6)
abbrev pub stamp_at : ℕ → ℕ
stamp_at seconds = 100 * seconds % 4294967296

-- An alert that is open. Its time-stamp is that of the moment at which it began: so many seconds ago as passed in it.
abbrev pub alert_in : ℕ → Undertaking → Cut → ℕ → ℕ → Alert
alert_in now u cut first place = record {
  first = first;
  place = place;
  sequence = sequence_behind (u.drawn + cut.alerts);
  stamp = stamp_at (now - all_seconds cut.since);
  attempt = alert_at u.job (sequence_behind (u.drawn + cut.alerts)) first place cut.since;
}

abbrev pub part_in : ℕ → Undertaking → Cut → Turn → Part
part_in now u cut (ToAct act) = Acting act
part_in now u cut (ToAlert first place) = Alerting (alert_in now u cut first place)
part_in now u cut ToOemAction = OemAction

abbrev pub work_in : Undertaking → Work
work_in u = record { number = u.number; job = u.job; guid = u.guid }

abbrev pub running_at : ℕ → Undertaking → Option Turn → Option Running
running_at now u None = None
running_at now u (Some turn) = Some (record { work = work_in u; part = part_in now u (cut_of u) turn })

abbrev pub running : ℕ → List Undertaking → Option Running
running now [] = None
running now (u ∷ us) = running_at now u (turn_of u)

abbrev pub now_of : ℕ → Course → Now
now_of now c = record { running = running now c.undertakings; mark = c.mark; sequence = sequence_behind (drawn_by c.undertakings); status = c.status }

abbrev pub values : List ℕ → List Deed → Values
values Z past = record {
  own = own_of Z;
  pef = pef Z past;
  lan = lan_tables past;
  ticks = ticks past % 4294967296;
  delay = delay Z past;
  postpone = postpone past;
  records = log past;
  software = software past;
  note = note past;
  reply = reply past;
  replies = replies past;
  now = now_of (ticks past) (course Z past);
}

-- what is in force there
abbrev pub force_of : Values → Force
force_of v = record { own = v.own; pef = v.pef; lan = v.lan }
