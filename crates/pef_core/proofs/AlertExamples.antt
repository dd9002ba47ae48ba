-- Worked rows of the definitions of alerts: the open part of a job by the seconds that passed, the sequence number, the time-stamp and the GUID.
use Rattle.std.proofs.Common.{◌≡◌, ℕ, true, false, List, [], ◌∷◌, replicate, Option, Some, None, option_map, nat_lt, refl}
use Rattle.pef_engine.specs.declared.entry.Entry.TheVariants.{Item as Taken}
use Rattle.job_course.specs.declared.counts.Counts.{Counts}
use Rattle.job_course.specs.declared.counts.Counts.TheVariants.{Second}
use Rattle.job_course.specs.declared.part.Part.{Part}
use Rattle.job_course.specs.declared.part.Part.TheVariants.{Alerting}
use Rattle.job_course.specs.Undertaking.{turn_of}
use Rattle.job_course.proofs.AlertExamples.{undertaking, acted, sent_once, all_sent}
use Rattle.pef_core.specs.declared.item.Item.TheVariants.{Tick}
use Rattle.pef_core.specs.After.{following}
use Rattle.pef_core.specs.Course.{guid_or}
use Rattle.pef_core.specs.Histories.{encode}
use Rattle.pef_core.specs.Values.{running_at, stamp_at}

-- An alert that began in second 40: it keeps its sequence number and its time-stamp, and counts its seconds from the first outcome on. What
-- passed before that doesn't count.
abbrev open_alert : ℕ → ℕ → ℕ → ℕ → Part
open_alert outcomes ticks sequence stamp = Alerting (record {
  first = 0;
  place = 0;
  sequence = sequence;
  stamp = stamp;
  attempt = record { acknowledged = true; wait = 3; retries = 2; outcomes = outcomes; done = nat_lt 0 outcomes; ticks = ticks; acked = false };
})

abbrev part_after_seconds : ℕ → List Counts → Option Part
part_after_seconds now since = option_map (λ r. r.part) (running_at now (undertaking since) (turn_of (undertaking since)))

parts : (part_after_seconds 40 acted ≡ Some (open_alert 0 0 5 4000)) × (part_after_seconds 42 (Second ∷ Second ∷ acted) ≡ Some (open_alert 0 0 5 4000))
    × (part_after_seconds 40 sent_once ≡ Some (open_alert 1 0 5 4000)) × (part_after_seconds 43 (Second ∷ Second ∷ Second ∷ sent_once) ≡ Some (open_alert 1 3 5 4000))
    × (part_after_seconds 48 all_sent ≡ Some (open_alert 3 8 5 4000))
parts = (refl, refl, refl, refl, refl)

-- hundredths of a second, of 32 bits; and the GUID of parameter 10 before that of the settings
stamps : (stamp_at 42949672 ≡ 4294967200) × (stamp_at 42949673 ≡ 4) × (guid_or None (replicate 16 1) ≡ replicate 16 1) × (guid_or (Some (replicate 16 2)) (replicate 16 1) ≡ replicate 16 2)
stamps = (refl, refl, refl, refl)

octets : encode (Taken Tick) ≡ 0x03 ∷ []
octets = refl

-- 65535 is followed by 1
follows : (following 65534 ≡ 65535) × (following 65535 ≡ 1)
follows = (refl, refl)
