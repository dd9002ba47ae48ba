use Rattle.std.proofs.Common.{arith}
use Rattle.settings_document.proofs.Documents.{document_read, refused_as_text, wants_memory}
use Rattle.settings_document.proofs.document.read_document.Goals as goal

pub returns-in-Ok-clause-given : goal.returns-in-Ok-clause-given
returns-in-Ok-clause-given c = document_read c.args.text.now _ (omega (arith, c.if-text-gt-TEXT_LIMIT.false)) c.in-Ok.ensures.ok.0 c.in-Ok.ensures.ok.1

pub returns-in-Err-clause-refused : goal.returns-in-Err-clause-refused
returns-in-Err-clause-refused c = λ why is. refused_as_text c.args.text.now c.in-Err.fault c.fault_of.result why (omega (arith, c.if-text-gt-TEXT_LIMIT.false)) c.in-Err.ensures.refused c.fault_of.ensures.memory c.fault_of.ensures.refused (cc is)

pub returns-in-Err-clause-memory : goal.returns-in-Err-clause-memory
returns-in-Err-clause-memory c = λ is. (omega (arith, c.if-text-gt-TEXT_LIMIT.false), wants_memory c.args.text.now c.in-Err.fault c.fault_of.result c.in-Err.ensures.memory c.fault_of.ensures.refused (cc is))
