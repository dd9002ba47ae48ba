-- An undertaking: what the controller does for one event record (IPMI 2.0, sections 17.6 and 17.11), and how far what counts since its start
-- has brought it. That the act comes first, then the alerts and the OEM action last, and that act and OEM action are done once whatever
-- their outcomes are, is this project's rule. So is that each alert draws one sequence number, 1 to 65535 and then 1 again, and has the
-- time at which it began in its trap.
use Rattle.std.specs.Prelude.{ℕ, ◌+◌, ◌%◌, ◌==◌, Bool, false, List, [], ◌∷◌, ◌++◌, length, map, take, drop, get_or, Option, Some, None, is_some, if◌then◌else◌}
use Rattle.std.specs.List.{prefix_len}
use Rattle.board_core.specs.declared.step.Act.{Act}
use Rattle.lan_dest.specs.Attempts.{verdict, Counted}
use Rattle.alert_trap.specs.Acknowledgement.{ack_awaited}
use Rattle.policy_walk.specs.declared.stop.Stop.{Stop}
use Rattle.policy_walk.specs.Tried.{place_after}
use Rattle.pef_match.specs.declared.target.Target.{Target}
use Rattle.pef_match.specs.Parts.{Parts}
use Rattle.job_course.specs.declared.counts.Counts.{Counts}
use Rattle.job_course.specs.declared.turn.Turn.{Turn}
use Rattle.job_course.specs.declared.turn.Turn.TheVariants.{ToAct, ToAlert, ToOemAction}
use Rattle.job_course.specs.Counting.{counted, outcome_in}

-- The job of the record of this number in the log, counted from 1, and the GUID in force, as they were when it began; how many alerts the
-- controller had begun before; and what counts since then, the latest first. An alert that is sent at once has no record, and so no number
-- (IPMI 2.0, section 30.7).
pub record Undertaking : Type 0 where
  pub number : Option ℕ
  pub job : Parts
  pub guid : List ℕ
  pub drawn : ℕ
  pub since : List Counts

-- before its act; in the policy set that begins at this place among the targets, after these results of its alerts; behind the OEM action
pub data Stage : Type 0 where
  First : Act → Stage
  InSet : ℕ → List Bool → Stage
  Finished : Stage

-- the targets at the front that have one policy number
abbrev pub one_set : List Target → List Target
one_set [] = []
one_set (target ∷ targets) = take (prefix_len (λ other. other.policy_number == target.policy_number) (target ∷ targets)) (target ∷ targets)

abbrev pub set_at : List Target → ℕ → List Target
set_at targets first = one_set (drop first targets)

abbrev pub stops_at : List Target → ℕ → List Stop
stops_at targets first = map (λ target. target.stop) (set_at targets first)

abbrev pub first_stage : Option Act → Stage
first_stage None = InSet 0 []
first_stage (Some act) = First act

-- an alert of this set, or behind the last set the OEM action
abbrev pub turn_in : Parts → ℕ → Option ℕ → Option Turn
turn_in job first (Some place) = Some (ToAlert first place)
turn_in job first None = if job.oem then Some ToOemAction else None

-- whose turn it is, and none where the undertaking is over
abbrev pub turn_at : Parts → Stage → Option Turn
turn_at job (First act) = Some (ToAct act)
turn_at job (InSet first results) = turn_in job first (place_after (stops_at job.targets first) results)
turn_at job Finished = None

-- where no alert of a set is to be attempted any more, the next set's turn comes
abbrev pub behind_alert : List Target → ℕ → List Bool → Stage
behind_alert targets first results =
    if is_some (place_after (stops_at targets first) results) then InSet first results else InSet (first + length (set_at targets first)) []

abbrev pub results_in : Stage → List Bool
results_in (InSet first results) = results
results_in stage = []

abbrev pub stage_after : Parts → Turn → Bool → Stage → Stage
stage_after job (ToAct act) result stage = InSet 0 []
stage_after job (ToAlert first place) result stage = behind_alert job.targets first (results_in stage ++ result ∷ [])
stage_after job ToOemAction result stage = Finished

-- the target of a turn; there is one, so that what stands here else makes no difference
abbrev pub target_at : List Target → ℕ → ℕ → Target
target_at targets first place = get_or targets (first + place) (record {
  policy_number = 0;
  entry = 0;
  stop = record { policy = 0; channel = 0; kind = 0 };
  to = record { to = record { ip = []; port = 0 }; acknowledged = false; kind = 0; wait = 1; retries = 0; community = [] };
  severity = 0;
  text = [];
})

-- the sequence number of an alert before which so many were begun
abbrev pub sequence_behind : ℕ → ℕ
sequence_behind drawn = 1 + drawn % 65535

-- how an alert stands, which drew this sequence number
abbrev pub alert_at : Parts → ℕ → ℕ → ℕ → List Counts → Counted
alert_at job sequence first place since = counted (target_at job.targets first place).to (ack_awaited sequence job.event) since

-- how a part ended, nothing while it goes on
abbrev pub result_of : Parts → ℕ → Turn → List Counts → Option Bool
result_of job sequence (ToAct act) since = outcome_in since
result_of job sequence (ToAlert first place) since = verdict (alert_at job sequence first place since)
result_of job sequence ToOemAction since = outcome_in since

-- What counts is cut into parts, one behind the other: how far they came, how many alerts are over, how the latest part that is over ended,
-- and what counts for the open part.
pub record Cut : Type 0 where
  pub stage : Stage
  pub alerts : ℕ
  pub last : Option Bool
  pub since : List Counts

abbrev pub one_if_alert : Turn → ℕ
one_if_alert (ToAlert first place) = 1
one_if_alert turn = 0

-- a part ends as soon as it has a result
abbrev pub ended_or : Parts → Turn → Option Bool → List Counts → Cut → Cut
ended_or job turn None since cut = record cut { since = since }
ended_or job turn (Some result) since cut = record { stage = stage_after job turn result cut.stage; alerts = cut.alerts + one_if_alert turn; last = Some result; since = [] }

abbrev pub joined : Undertaking → Counts → Cut → Option Turn → Cut
joined u counts cut None = cut
joined u counts cut (Some turn) = ended_or u.job turn (result_of u.job (sequence_behind (u.drawn + cut.alerts)) turn (counts ∷ cut.since)) (counts ∷ cut.since) cut

abbrev pub cut_by : Undertaking → List Counts → Cut
cut_by u [] = record { stage = first_stage u.job.act; alerts = 0; last = None; since = [] }
cut_by u (counts ∷ since) = joined u counts (cut_by u since) (turn_at u.job (cut_by u since).stage)

abbrev pub cut_of : Undertaking → Cut
cut_of u = cut_by u u.since

abbrev pub turn_of : Undertaking → Option Turn
turn_of u = turn_at u.job (cut_of u).stage

abbrev pub is_running : Undertaking → Bool
is_running u = is_some (turn_of u)

abbrev pub alerts_open : Option Turn → ℕ
alerts_open None = 0
alerts_open (Some turn) = one_if_alert turn

-- how many alerts were begun before its end
abbrev pub drawn_with : Undertaking → ℕ
drawn_with u = u.drawn + (cut_of u).alerts + alerts_open (turn_of u)
