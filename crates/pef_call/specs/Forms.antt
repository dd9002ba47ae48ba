-- Which forms make a state file.
use Rattle.std.specs.Prelude.{Bool, true, false}
use Rattle.pef_call.specs.declared.form.Form.{Form}
use Rattle.pef_call.specs.declared.form.Form.TheVariants.{Init, InitConsole}

-- these two alone
abbrev pub formats_file : Form → Bool
formats_file Init = true
formats_file InitConsole = true
formats_file other = false
