use Rattle.std.proofs.Common.{append_assoc, refl}
use Rattle.trap_console.proofs.listing.put_key.Goals as goal

pub returns-clause-added : goal.returns-clause-added
returns-clause-added c =
    simp (
      c.decimal-2.ensures.added,
      c.text-2.ensures.added,
      c.decimal.ensures.added,
      c.text.ensures.added,
      c.put_guid.ensures.added,
      c.from.ensures,
      append_assoc,
    ) refl
