-- What a controller's settings give it. They are 55 octets, counted from 1 here: GUID (1 to 16), agent address (17 to 20), manufacturer (21
-- to 24), system (25, 26), three ports (27 to 32), then the initial parameters 1 to 3 and filter 1; numbers have their least octet first.
-- This layout is the project's own.
use Rattle.std.specs.Prelude.{ℕ, ◌+◌, ◌*◌, List, take, drop}
use Rattle.event_record.specs.Fields.{octet}
use Rattle.alert_trap.specs.declared.origin.Origin.{Origin}
use Rattle.lan_dest.specs.declared.destination.Ports.{Ports}
use Rattle.pef_config.specs.declared.initial.Initial.{Initial}
use Rattle.job_course.specs.declared.own.Own.{Own}

-- control, actions, startup delay, filter 1
abbrev pub initial_of : List ℕ → Initial
initial_of Z = record { control = octet 33 Z; actions = octet 34 Z; delay = octet 35 Z; filter = drop 35 Z }

-- a number of two octets, and of four, from this one on
abbrev pub two : ℕ → List ℕ → ℕ
two n Z = octet n Z + 256 * octet (n + 1) Z

abbrev pub four : ℕ → List ℕ → ℕ
four n Z = two n Z + 65536 * two (n + 2) Z

abbrev pub origin_of : List ℕ → Origin
origin_of Z = record { agent = take 4 (drop 16 Z); manufacturer = four 21 Z; system = two 25 Z }

abbrev pub ports_of : List ℕ → Ports
ports_of Z = record { pet = two 27 Z; oem1 = two 29 Z; oem2 = two 31 Z }

-- what its traps tell of it, and where they go
abbrev pub own_of : List ℕ → Own
own_of Z = record { guid = take 16 Z; origin = origin_of Z; ports = ports_of Z }
