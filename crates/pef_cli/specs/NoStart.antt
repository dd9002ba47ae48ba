-- Why no work could begin: what an error means, and what the program answers.
use Rattle.std.specs.Prelude.{ℕ, List, Option, Some, None, codes}
use Rattle.pef_cli.specs.declared.no_start.NoStart.{NoStart}
use Rattle.pef_cli.specs.declared.no_start.NoStart.TheVariants.{Memory}

-- the program's status
abbrev pub status_of : NoStart → ℕ
status_of Memory = 10
status_of _ = 1

-- the first line on standard error
abbrev pub line_of : NoStart → List ℕ
line_of Memory = codes "memory"
line_of _ = codes "cannot start"

-- what is said behind that line
abbrev pub reason_of : NoStart → Option NoStart
reason_of Memory = None
reason_of fault = Some fault
