use Rattle.std.proofs.Common.{refl}
use Rattle.pef_engine.proofs.replay.replay_one.Goals as goal

pub returns-in_default-clause-replays : goal.returns-in_default-clause-replays
returns-in_default-clause-replays g c = λ Z H lawful shows. (refl, λ e is_e enc allowed. absurd (let found = c.decode_entry.ensures.found e is_e enc in cc (found, c.in_default.is)))
