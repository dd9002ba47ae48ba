use Rattle.std.proofs.Common.{rules}
use Rattle.std.proofs.lemmas.Result.{err_from_is_err_and}
use Rattle.snmp_trap.proofs.Loop.{shorter, stops_at_element, keeps, stops, ends}
use Rattle.snmp_trap.proofs.reading.body.Goals as goal

pub returns-in_err-next : goal.returns-in_err-next
returns-in_err-next c =
    let p = err_from_is_err_and c.from_residual.result c.from_residual.ensures.1 in
    rw (p.1, p.2) (stops_at_element _ _ c.loop-rest.rest.at c.loop-rest.rest.octets.now _ _ (search rules) c.in_err-next.ensures c.loop-rest.invariant)

pub returns-in_err-binding : goal.returns-in_err-binding
returns-in_err-binding c =
    let p = err_from_is_err_and c.from_residual-in_err-binding.result c.from_residual-in_err-binding.ensures.1 in
    rw (p.1, p.2) (stops _ c.loop-rest.body c.loop-rest.rest.at c.loop-rest.rest.octets.now _ _ _ c.is_some.result (search rules) c.in_ok-next.ensures c.is_some.ensures c.in_err-binding.ensures c.loop-rest.invariant)

pub loop-rest-smaller : goal.loop-rest-smaller
loop-rest-smaller c = shorter _ _ _ _ c.in_ok-next.ensures

pub loop-rest-preserved : goal.loop-rest-preserved
loop-rest-preserved c =
    keeps _ c.loop-rest.body c.loop-rest.rest.at c.loop-rest.rest.octets.now _ _ c.in_ok-binding.field-0 c.or-body.result c.is_some.result (search rules) c.in_ok-next.ensures c.is_some.ensures c.in_ok-binding.ensures c.or-body.ensures c.loop-rest.invariant

pub returns : goal.returns
returns c = ends _ c.loop-rest.body c.loop-rest.rest.at c.loop-rest.rest.octets.now _ c.ok_or.result (search rules) c.loop-rest.invariant c.ok_or.ensures.value
