use Rattle.std.proofs.Common.{◌≡◌, ◌≢◌, length, rules, is_some, false}
use Rattle.event_record.specs.Log.{place_in}
use Rattle.event_record.specs.Fields.{record_id}
use Rattle.event_record.proofs.Grown.{grown}
use Rattle.event_record.proofs.log.Log.add.Goals as goal

pub invariant_of-self : goal.invariant_of-self
invariant_of-self c =
    let absent : is_some (place_in c.self.inside.records.items (record_id c.args.event)) ≡ false = rw (c.self.view_is, ← c.id-id.ensures, ← c.place_of.ensures.place, ← c.is_some.ensures) c.if-is_some.false in
    let room : length c.self.inside.records.items ≢ 1024 = search rules in
    rw c.push_reserved.ensures.items (grown _ _ c.self.invariant.0 absent room, search rules)
