use Rattle.std.proofs.Common.{refl}
use Rattle.board_core.proofs.trace.Trace.pass.Goals as goal

pub returns : goal.returns
returns c = record {
  nothing = record {
    octets = refl;
    start = refl;
    earlier = refl;
    calls = c.pass.ensures.kept;
    sent = refl;
    made = c.pass.ensures.made;
    later = c.pass.ensures.later;
  };
}
