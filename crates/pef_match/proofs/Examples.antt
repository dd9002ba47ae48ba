-- Worked examples of the definitions: what a fan's event asks for under filters on its sensor type and its offset.
use Rattle.std.proofs.Common.{◌≡◌, ℕ, true, false, Bool, cond, eqb, List, [], ◌∷◌, replicate, take, drop, Option, Some, None, refl}
use Rattle.board_core.specs.declared.step.Act.{Act}
use Rattle.board_core.specs.declared.step.Act.TheVariants.{PowerDown, PowerCycle, Reset}
use Rattle.filter_table.specs.BitTest.{fits, is_match}
use Rattle.lan_dest.specs.declared.destination.Ports.{Ports}
use Rattle.lan_dest.specs.Parameters.{initial}
use Rattle.pef_config.specs.Places.{Tables, Actions, FirstOctet, OtherOctets, our_sizes}
use Rattle.pef_match.specs.Alerts.{alarm_in, set_by, targets_of}
use Rattle.pef_match.specs.Texts.{alert_text}
use Rattle.pef_match.specs.Parts.{Parts}
use Rattle.pef_match.specs.Job.{filters_in, job}

-- a filter on sensor type 04h and offset 2, with this first octet and these actions
abbrev filter_with : ℕ → ℕ → List ℕ
filter_with flags actions =
    flags ∷ actions ∷ 0x01 ∷ 0x10 ∷ 0xFF ∷ 0xFF ∷ 0x04 ∷ 0xFF ∷ 0x01 ∷ 0x04 ∷ 0x00
    ∷ 0x00 ∷ 0x00 ∷ 0x00 ∷ 0x00 ∷ 0x00 ∷ 0x00 ∷ 0x00 ∷ 0x00 ∷ 0x00 ∷ []

-- filter 1 and filter 16; the others are zeros
abbrev filters : List ℕ → List ℕ → ℕ → List ℕ
filters first last n = cond (eqb n 1) first (cond (eqb n 16) last (replicate 20 0))

abbrev tables : ℕ → (ℕ → List ℕ) → Tables
tables mask filter Actions = mask ∷ []
tables mask filter (FirstOctet n) = take 1 (filter n)
tables mask filter (OtherOctets n) = drop 1 (filter n)
tables mask filter place = 0x00 ∷ []

-- a fan's event of this type
abbrev event_of : ℕ → List ℕ
event_of kind = 0x01 ∷ 0x00 ∷ kind ∷ 0x00 ∷ 0xCA ∷ 0x9A ∷ 0x3B ∷ 0x20 ∷ 0x00 ∷ 0x04 ∷ 0x04 ∷ 0x30 ∷ 0x01 ∷ 0x52 ∷ 0x10 ∷ 0x20 ∷ []

abbrev ports : Ports
ports = record { pet = 162; oem1 = 1006; oem2 = 1007 }

-- the job where there is no policy entry and no destination
abbrev job_with : Tables → List ℕ → Parts
job_with tables event = job our_sizes tables initial ports event

abbrev asks_for : Option Act → Bool → ℕ → Parts
asks_for act oem kind = record { act = act; targets = []; oem = oem; event = Some (event_of kind) }

-- all actions under the mask 3Dh: power cycle, and the OEM action beside it
pub one_filter : job_with (tables 0x3D (filters (filter_with 0x80 0x3F) (replicate 20 0))) (event_of 0x02) ≡ asks_for (Some PowerCycle) true 0x02
unfolding fits is_match filters_in alarm_in set_by targets_of alert_text
one_filter = refl

-- of two acts the first by priority, whichever filter asks for it
pub two_filters :
    (job_with (tables 0x3F (filters (filter_with 0x80 0x20) (filter_with 0x80 0x04))) (event_of 0x02) ≡ asks_for (Some Reset) false 0x02)
    × (job_with (tables 0x3F (filters (filter_with 0x80 0x04) (filter_with 0x80 0x02))) (event_of 0x02) ≡ asks_for (Some PowerDown) false 0x02)
unfolding fits is_match filters_in alarm_in set_by targets_of alert_text
two_filters = (refl, refl)

-- a disabled filter, an OEM record, the alert bit alone, and a mask of zeros
pub nothing :
    (job_with (tables 0x3F (filters (filter_with 0x00 0x3F) (replicate 20 0))) (event_of 0x02) ≡ asks_for None false 0x02)
    × (job_with (tables 0x3F (filters (filter_with 0x80 0x3F) (replicate 20 0))) (event_of 0xC0) ≡ asks_for None false 0xC0)
    × (job_with (tables 0x3F (filters (filter_with 0x80 0x01) (replicate 20 0))) (event_of 0x02) ≡ asks_for None false 0x02)
    × (job_with (tables 0x00 (filters (filter_with 0x80 0x3F) (replicate 20 0))) (event_of 0x02) ≡ asks_for None false 0x02)
unfolding fits is_match filters_in alarm_in set_by targets_of alert_text
nothing = (refl, refl, refl, refl)
