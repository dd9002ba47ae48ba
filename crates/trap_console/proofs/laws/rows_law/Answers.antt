use Rattle.trap_console.proofs.Firsts.{rows_are_firsts}
use Rattle.trap_console.proofs.laws.rows_law.Goals as goal

pub returns : goal.returns
returns c = rows_are_firsts
