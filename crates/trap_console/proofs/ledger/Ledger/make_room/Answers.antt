use Rattle.std.proofs.Common.{sym, subst}
use Rattle.trap_console.specs.Index.{IsIndexed}
use Rattle.trap_console.proofs.Lookups.{stays_either}
use Rattle.trap_console.proofs.ledger.Ledger.make_room.Goals as goal

pub invariant_of-self-2-clause-indexed : goal.invariant_of-self-2-clause-indexed
invariant_of-self-2-clause-indexed c =
    let ledger = c.args.self.now in
    subst (λ rows. IsIndexed rows c.insert.new.self) (sym c.reserve.ensures.items)
    (stays_either ledger.rows.items ledger.places ledger.indexed c.args.key c.insert.result c.len-place.result c.insert.new.self c.requires.new c.insert.ensures.updates c.insert.ensures.err)
