use Rattle.std.proofs.Common.{append_assoc, refl}
use Rattle.trap_console.proofs.listing.put_guid.Goals as goal

pub returns-clause-added : goal.returns-clause-added
returns-clause-added c =
    simp (
      c.hexadecimal-5.ensures.added,
      c.text-4.ensures.added,
      c.hexadecimal-4.ensures.added,
      c.text-3.ensures.added,
      c.hexadecimal-3.ensures.added,
      c.text-2.ensures.added,
      c.hexadecimal-2.ensures.added,
      c.text.ensures.added,
      c.hexadecimal.ensures.added,
      append_assoc,
    ) refl
