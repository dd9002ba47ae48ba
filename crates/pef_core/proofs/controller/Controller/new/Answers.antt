use Rattle.std.proofs.Common.{◌≡◌, ◌-◌, ℕ, [], ◌∙◌, ap, sym, refl, arith}
use Rattle.std.proofs.Math.Path.{fun_ext}
use Rattle.pef_config.specs.Places.{our_sizes, value}
use Rattle.pef_config.specs.Kept.{tables}
use Rattle.pef_core.specs.Past.{pef, delay, delay_by}
use Rattle.pef_core.proofs.controller.Controller.new.Goals as goal

less_none : (n : ℕ) → n - 0 ≡ n
less_none n = omega arith

pub returns : goal.returns
returns c = λ Z own initial. record {
  values_are =
      let parameters : tables c.new-config.result ≡ pef Z [] = fun_ext (λ place. c.new-config.ensures place ∙ ap (λ i. value our_sizes i [] place) initial) in
      let held : c.startup_delay-delay.result ≡ delay Z [] = c.startup_delay-delay.ensures ∙ ap delay_by parameters ∙ sym (less_none (delay_by (pef Z []))) in
      let kept = c.new.ensures in
      let records = c.in_ok-new.ensures in
      cc;
  script_is = refl;
}
