use Rattle.std.proofs.Common.{◌≡◌, ◌-◌, ◌∙◌, ap, ℕ, List, [], length, take, drop, arith, length-drop, take_all}
use Rattle.std.proofs.lemmas.Result.{IfOk-weaker}
use Rattle.pef_config.specs.declared.initial.Initial.{Initial}
use Rattle.pef_core.specs.Settings.{initial_of}
use Rattle.pef_core.specs.View.{ShowsController}
use Rattle.pef_core.proofs.machine.ControllerMachine.fresh.Goals as goal

rest : (n : ℕ) (xs : List ℕ) → take (length xs - n) (drop n xs) ≡ drop n xs
rest n xs = take_all (length xs - n) (drop n xs) (omega (arith, length-drop n xs))

abbrev with_filter : List ℕ → List ℕ → Initial
with_filter Z filter = record (initial_of Z) { filter = filter }

pub returns : goal.returns
returns c =
    let settings = c.args.settings.now in
    let read = ap (with_filter settings) (c.copy_from_slice.ensures.after ∙ rest 35 settings) in
    IfOk-weaker c.new.result _ (λ machine. ShowsController machine settings []) (λ machine shows. shows settings c.own_of.ensures read) c.new.ensures
