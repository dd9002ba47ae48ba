use Rattle.std.proofs.Common.{◌≡◌, Err, rules}
use Rattle.script_text.specs.declared.settings.SettingsFault.TheVariants.{Refused}
use Rattle.pef_call.specs.Init.{settings_fault_of}
use Rattle.pef_call.specs.declared.init_fault.InitFault.TheVariants.{Settings}
use Rattle.pef_call.proofs.Faults.{at_refused}
use Rattle.pef_call.proofs.initializing.settings_in.Goals as goal

pub returns-in_err-read-clause-refused : goal.returns-in_err-read-clause-refused
returns-in_err-read-clause-refused g c = λ refusal is text told.
    let fault = c.in_err-read.field-0.0 in
    let gives : settings_fault_of fault ≡ Settings refusal = search (rules, c.from_residual-in_err-read.ensures, is) in
    let was : c.read.result ≡ Err (Refused refusal) = search (rules, c.in_err-read.was, at_refused fault refusal gives) in
    let of_text = c.in_ok-text.ensures.whole text told in
    search (rules, c.read.ensures.refused refusal was, of_text, c.as_slice.ensures.value)
