-- Worked rows of the definitions of a job's course: a job with an act, four alerts and the OEM action, for a fan's event.
use Rattle.std.proofs.Common.{◌≡◌, ℕ, true, false, List, [], ◌∷◌, replicate, Some, None, refl}
use Rattle.board_core.specs.declared.step.Act.TheVariants.{Reset}
use Rattle.board_core.specs.declared.step.Told.TheVariants.{Done, Failed}
use Rattle.lan_dest.specs.declared.destination.Destination.{Destination}
use Rattle.pef_match.specs.Parts.{Parts}
use Rattle.pef_match.specs.declared.target.Target.{Target}
use Rattle.job_course.specs.declared.counts.Counts.{Counts}
use Rattle.job_course.specs.declared.counts.Counts.TheVariants.{Second, Ack, Heard}
use Rattle.job_course.specs.declared.turn.Turn.TheVariants.{ToAct, ToAlert, ToOemAction}
use Rattle.job_course.specs.Undertaking.{Undertaking, turn_of, drawn_with, sequence_behind}

-- a fan's event with this ID, this type and this event data 1
abbrev pub fan_with : ℕ → ℕ → ℕ → List ℕ
fan_with id kind event_data_1 =
    id ∷ 0x00 ∷ kind ∷ 0x00 ∷ 0xCA ∷ 0x9A ∷ 0x3B ∷ 0x20 ∷ 0x00 ∷ 0x04 ∷ 0x04 ∷ 0x30 ∷ 0x01 ∷ event_data_1 ∷ 0x10 ∷ 0x20 ∷ []

-- A job of four alerts in two policy sets, with an act before and the OEM action behind them. The first destination is to be acknowledged,
-- with a wait of three seconds and two retries; the others are sent to once. The second of set 1 is for an alert that failed at the first.
abbrev pub once : Destination
once = record { to = record { ip = 10 ∷ 0 ∷ 0 ∷ 10 ∷ []; port = 162 }; acknowledged = false; kind = 0; wait = 1; retries = 0; community = [] }

abbrev pub acknowledged : Destination
acknowledged = record { to = record { ip = 10 ∷ 0 ∷ 0 ∷ 9 ∷ []; port = 162 }; acknowledged = true; kind = 0; wait = 3; retries = 2; community = [] }

abbrev pub target : ℕ → ℕ → ℕ → Destination → Target
target number entry policy to = record {
  policy_number = number;
  entry = entry;
  stop = record { policy = policy; channel = 1; kind = 0 };
  to = to;
  severity = 0x10;
  text = [];
}

abbrev pub alerts_job : Parts
alerts_job = record {
  act = Some Reset;
  targets = target 1 1 0 acknowledged ∷ target 1 2 1 once ∷ target 2 3 0 once ∷ target 2 4 2 once ∷ [];
  oem = true;
  event = Some (fan_with 1 0x02 0x52);
}

-- the undertaking of record 1, before which four alerts were begun, with what counts since, the latest first
abbrev pub undertaking : List Counts → Undertaking
undertaking since = record { number = Some 1; job = alerts_job; guid = replicate 16 0; drawn = 4; since = since }

-- the acknowledgement of the fan's trap with this sequence number and this event data 3
abbrev pub ack : ℕ → ℕ → Counts
ack sequence last =
    Ack (record { sequence = sequence; timestamp = 116387200; event_source = 0x20; device = 0x20; sensor = 0x30; event_data = 0x52 ∷ 0x10 ∷ last ∷ [] })

-- the act's outcome; then three transmissions with three seconds behind each
abbrev pub acted : List Counts
acted = Heard Failed ∷ []

abbrev pub sent_once : List Counts
sent_once = Heard Done ∷ acted

abbrev pub all_sent : List Counts
all_sent = Second ∷ Second ∷ Heard Done ∷ Second ∷ Second ∷ Second ∷ Heard Failed ∷ Second ∷ Second ∷ Second ∷ sent_once

-- The alerts come behind the act. The first ends with the acknowledgement in all its fields, and by no other, and then the next set's turn
-- comes; or it fails nine seconds after its first outcome, and then the next of its set comes.
turns : (turn_of (undertaking []) ≡ Some (ToAct Reset)) × (turn_of (undertaking acted) ≡ Some (ToAlert 0 0)) × (turn_of (undertaking all_sent) ≡ Some (ToAlert 0 0))
    × (turn_of (undertaking (ack 5 0x20 ∷ sent_once)) ≡ Some (ToAlert 2 0)) × (turn_of (undertaking (ack 6 0x20 ∷ sent_once)) ≡ Some (ToAlert 0 0))
    × (turn_of (undertaking (ack 5 0x21 ∷ sent_once)) ≡ Some (ToAlert 0 0)) × (turn_of (undertaking (Second ∷ all_sent)) ≡ Some (ToAlert 0 1))
turns = (refl, refl, refl, refl, refl, refl, refl)

-- Each outcome ends an alert that is sent once: after a failure the next of policy 2 comes, and after a success none; the OEM action is last.
abbrev pub second_set : List Counts
second_set = ack 5 0x20 ∷ sent_once

endings : (turn_of (undertaking (Heard Failed ∷ second_set)) ≡ Some (ToAlert 2 1)) × (turn_of (undertaking (Heard Done ∷ second_set)) ≡ Some ToOemAction)
    × (turn_of (undertaking (Heard Failed ∷ Heard Failed ∷ second_set)) ≡ Some ToOemAction) × (turn_of (undertaking (Heard Failed ∷ Heard Done ∷ second_set)) ≡ None)
endings = (refl, refl, refl, refl)

-- how many alerts were begun, which an alert counts from its start on; the sequence number behind 65535 is 1
drawn : (drawn_with (undertaking []) ≡ 4) × (drawn_with (undertaking acted) ≡ 5) × (drawn_with (undertaking all_sent) ≡ 5)
    × (drawn_with (undertaking second_set) ≡ 6) × (drawn_with (undertaking (Heard Failed ∷ Heard Done ∷ second_set)) ≡ 6)
    × (sequence_behind 0 ≡ 1) × (sequence_behind 65534 ≡ 65535) × (sequence_behind 65535 ≡ 1)
drawn = (refl, refl, refl, refl, refl, refl, refl, refl)
