use Rattle.std.proofs.Common.{subst}
use Rattle.pef_engine.specs.Marks.{ReadsMark}
use Rattle.trap_console.specs.Entries.{ReadsDatagram}
use Rattle.trap_console.proofs.Decoding.{decodes_mark, decodes_datagram, decodes_none}
use Rattle.trap_console.proofs.entries.decode.Goals as goal

pub returns-in-Some : goal.returns-in-Some
returns-in-Some c = rw c.marked.ensures (decodes_mark c.args.octets.now c.in-Some.mark (subst (ReadsMark c.args.octets.now) c.in-Some.is c.read_mark.ensures))

pub returns-in_ok-from-in-None : goal.returns-in_ok-from-in-None
returns-in_ok-from-in-None c =
    decodes_datagram c.args.octets.now c.in_ok-from-in-None.from c.in_ok-from-in-None.octets
    (subst (ReadsMark c.args.octets.now) c.in-None.is c.read_mark.ensures) (subst (ReadsDatagram c.args.octets.now) c.in_ok-from-in-None.was c.datagram_in.ensures)

pub returns-in_err-from-in-None : goal.returns-in_err-from-in-None
returns-in_err-from-in-None c =
    rw c.from_residual.ensures (decodes_none c.args.octets.now (subst (ReadsMark c.args.octets.now) c.in-None.is c.read_mark.ensures) (subst (ReadsDatagram c.args.octets.now) c.in_err-from-in-None.was c.datagram_in.ensures))
