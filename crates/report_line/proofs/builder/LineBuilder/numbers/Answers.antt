use Rattle.std.proofs.Common.{append_assoc, refl}
use Rattle.report_line.proofs.builder.LineBuilder.numbers.Goals as goal

pub returns-clause-added : goal.returns-clause-added
returns-clause-added c =
    simp (
      c.decimal-4.ensures.added,
      c.text-3.ensures.added,
      c.decimal-3.ensures.added,
      c.text-2.ensures.added,
      c.decimal-2.ensures.added,
      c.text.ensures.added,
      c.decimal.ensures.added,
      c.from.ensures,
      c.from-2.ensures,
      c.from-3.ensures,
      c.from-4.ensures,
      append_assoc,
    ) refl
