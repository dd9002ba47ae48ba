use Rattle.lan_dest.proofs.Fresh.{fresh_arrays}
use Rattle.lan_dest.proofs.lan.Lan.new.Goals as goal

pub returns : goal.returns
returns c = fresh_arrays
