use Rattle.std.proofs.Common.{◌≡◌}
use Rattle.toml.specs.View.{table_view}
use Rattle.settings_document.specs.Document.{has_only}
use Rattle.settings_document.proofs.Documents.{all_named}
use Rattle.settings_document.proofs.document.has_only.Given as goal

abbrev pub invariant-loop-name : goal.invariant-loop-name
invariant-loop-name l =
    (goal.iterator-loop-name).can_next l.name-iterator ×
    (goal.iterator-loop-name).is_finite l.name-iterator ×
    (has_only l.fn.keys (table_view l.fn.document) ≡ all_named l.fn.keys l.name-iterator)
