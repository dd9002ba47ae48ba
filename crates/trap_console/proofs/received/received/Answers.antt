use Rattle.std.proofs.Common.{Ok, sym, ◌∙◌, ap}
use Rattle.snmp_trap.specs.Reading.{seen}
use Rattle.pet_body.specs.declared.body.Body.{Body}
use Rattle.trap_console.proofs.Receiving.{has_body, receives, refuses}
use Rattle.trap_console.proofs.received.received.Goals as goal

pub body_of-requires : goal.body_of-requires
body_of-requires c = has_body c.args.octets.now (seen c.in-Ok.view) c.in-Ok.ensures.view

pub returns-in-Ok : goal.returns-in-Ok
returns-in-Ok c =
    ap (λ (body : Body). Ok (record { from = c.args.from.now; specific = c.in-Ok.view.specific; body = body })) c.body_of.ensures
    ∙ sym (receives c.args.from.now c.args.octets.now (seen c.in-Ok.view) c.in-Ok.ensures.view)

pub returns-in-Err : goal.returns-in-Err
returns-in-Err c = sym (refuses c.args.from.now c.args.octets.now c.in-Err.refusal c.in-Err.ensures.refused)
