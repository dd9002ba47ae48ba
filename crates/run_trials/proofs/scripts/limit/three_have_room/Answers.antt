use Rattle.run_trials.proofs.ShelfRoom.{three_may_end, four_lack}
use Rattle.run_trials.proofs.scripts.limit.three_have_room.Goals as goal

pub returns : goal.returns
returns c = record { three = three_may_end; four = four_lack }
