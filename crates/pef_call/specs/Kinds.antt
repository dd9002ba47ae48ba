-- The kinds of state files that this project makes: a controller's and a console's.
use Rattle.std.specs.Prelude.{List, [], ◌∷◌}
use Rattle.pef_journal.specs.declared.kind.FileKind.{FileKind}
use Rattle.pef_settings.specs.Settings.{controller}
use Rattle.console_settings.specs.Settings.{console}

abbrev pub kinds : List FileKind
kinds = controller ∷ console ∷ []
