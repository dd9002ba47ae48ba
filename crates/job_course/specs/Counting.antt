-- What counts for a part of a job, and how an alert stands after it: LAN parameter 18 of IPMI 2.0, section 23.2, table 23-4, and PET
-- Acknowledge, section 30.8. That an acknowledgement has to agree in all its fields is this project's rule.
use Rattle.std.specs.Prelude.{ℕ, ◌+◌, Bool, false, ◌&&◌, ◌||◌, ◌==◌, bytes_eq, if◌then◌else◌, List, [], ◌∷◌, Option, Some, None}
use Rattle.lan_dest.specs.Attempts.{Counted, is_done}
use Rattle.lan_dest.specs.declared.destination.Destination.{Destination}
use Rattle.pet_body.specs.declared.ack.PetAck.{PetAck}
use Rattle.job_course.specs.declared.counts.Counts.{Counts}
use Rattle.job_course.specs.declared.counts.Counts.TheVariants.{Second, Ack, Heard}

abbrev pub same_ack : PetAck → PetAck → Bool
same_ack a b =
    (a.sequence == b.sequence) && (a.timestamp == b.timestamp) && (a.event_source == b.event_source) && (a.device == b.device)
    && (a.sensor == b.sensor) && bytes_eq a.event_data b.event_data

-- Of what counts since a part began, the latest first: its outcomes, the seconds since the first of them, whether one was done, and whether
-- this acknowledgement is among them.
abbrev pub outcomes : List Counts → ℕ
outcomes [] = 0
outcomes (Heard told ∷ since) = outcomes since + 1
outcomes (counts ∷ since) = outcomes since

abbrev pub seconds : List Counts → ℕ
seconds [] = 0
seconds (Second ∷ since) = if outcomes since == 0 then 0 else seconds since + 1
seconds (counts ∷ since) = seconds since

abbrev pub one_done : List Counts → Bool
one_done [] = false
one_done (Heard told ∷ since) = is_done told || one_done since
one_done (counts ∷ since) = one_done since

abbrev pub one_acks : PetAck → List Counts → Bool
one_acks wanted [] = false
one_acks wanted (Ack ack ∷ since) = same_ack ack wanted || one_acks wanted since
one_acks wanted (counts ∷ since) = one_acks wanted since

-- the alert to this destination, which waits for this acknowledgement
abbrev pub counted : Destination → PetAck → List Counts → Counted
counted to wanted since = record {
  acknowledged = to.acknowledged;
  wait = to.wait;
  retries = to.retries;
  outcomes = outcomes since;
  done = one_done since;
  ticks = seconds since;
  acked = one_acks wanted since && to.acknowledged;
}

-- all seconds since a part began
abbrev pub all_seconds : List Counts → ℕ
all_seconds [] = 0
all_seconds (Second ∷ since) = all_seconds since + 1
all_seconds (counts ∷ since) = all_seconds since

-- a part that is one step ends with its outcome
abbrev pub outcome_in : List Counts → Option Bool
outcome_in (Heard told ∷ since) = Some (is_done told)
outcome_in since = None
