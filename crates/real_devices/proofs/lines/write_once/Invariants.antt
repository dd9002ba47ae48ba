-- A call that a signal interrupted wrote nothing.
use Rattle.std.specs.Io.KnownBytes.{Keeps}
use Rattle.real_devices.proofs.lines.write_once.Given as goal

abbrev pub invariant-loop : goal.invariant-loop
invariant-loop g l = Keeps (g.W.Write.contents l.fn.file) (g.W.Write.contents l.file)
