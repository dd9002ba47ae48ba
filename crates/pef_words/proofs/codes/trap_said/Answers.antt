use Rattle.std.proofs.Common.{sym, ◌∙◌}
use Rattle.snmp_trap.specs.Reading.{seen}
use Rattle.pef_words.proofs.Traps.{has_body, says, says_nothing}
use Rattle.pef_words.proofs.codes.trap_said.Goals as goal

pub body_said-requires : goal.body_said-requires
body_said-requires c = has_body c.args.octets.now (seen c.in-Ok.view) c.in-Ok.ensures.view

pub returns-in-Ok : goal.returns-in-Ok
returns-in-Ok c = c.body_said.ensures ∙ sym (says c.args.octets.now (seen c.in-Ok.view) c.in-Ok.ensures.view)

pub returns-in-Err : goal.returns-in-Err
returns-in-Err c = sym (says_nothing c.args.octets.now c.in-Err.field-0 c.in-Err.ensures.refused)
