use Rattle.std.proofs.Common.{◌≡◌, ◌↔◌, ℕ, Option, IsSome, rules, sym, subst}
use Rattle.event_record.specs.Log.{HoldsId, place_in}
use Rattle.event_record.proofs.Grown.{held_where, held_at}
use Rattle.event_record.proofs.log.Log.place_of.Goals as goal

pub returns-clause-held : goal.returns-clause-held
returns-clause-held c =
    let log = c.args.self.now in
    let place : c.first_with.result ≡ place_in log c.args.id = search rules in
    subst (λ (o : Option ℕ). IsSome o ↔ HoldsId log c.args.id) (sym place) (held_where log c.args.id)

pub returns-clause-there : goal.returns-clause-there
returns-clause-there c =
    let place : c.first_with.result ≡ place_in c.args.self.now c.args.id = search rules in
    held_at c.args.self.now c.args.id c.first_with.result (sym place)
