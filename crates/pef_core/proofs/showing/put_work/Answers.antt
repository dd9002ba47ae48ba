use Rattle.std.proofs.Common.{append_assoc, refl}
use Rattle.pef_core.proofs.showing.put_work.Goals as goal

pub returns-clause-added : goal.returns-clause-added
returns-clause-added c =
    simp (
      c.decimal-4.ensures.added,
      c.text-6.ensures.added,
      c.decimal-3.ensures.added,
      c.text-5.ensures.added,
      c.decimal-2.ensures.added,
      c.text-4.ensures.added,
      c.decimal.ensures.added,
      c.text-3.ensures.added,
      c.hexadecimal.ensures.added,
      c.text-2.ensures.added,
      c.put_job.ensures.added,
      c.text.ensures.added,
      c.from.ensures,
      c.from-2.ensures,
      c.from-3.ensures,
      append_assoc,
    ) refl
