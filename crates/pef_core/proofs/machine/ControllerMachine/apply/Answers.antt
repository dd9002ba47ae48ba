use Rattle.std.proofs.Common.{◌≡◌, ◌<◌, None, [], ◌∷◌, sym, ◌∙◌, ap, subst, arith}
use Rattle.pef_engine.specs.Scripts.{script_from}
use Rattle.pef_engine.proofs.ScriptOf.{from-append}
use Rattle.pef_core.specs.After.{with_next_job, values_after}
use Rattle.pef_core.specs.Deeds.{deed}
use Rattle.pef_core.specs.Left.{left}
use Rattle.pef_core.specs.Report.{controller_scripts}
use Rattle.pef_core.specs.View.{shown}
use Rattle.pef_core.proofs.LeftSteps.{begins_within}
use Rattle.pef_core.proofs.Standing.{standing_next}
use Rattle.pef_core.proofs.machine.ControllerMachine.apply.Goals as goal

pub returns : goal.returns
returns c =
    let entry = c.args.entry.now in
    let values : shown c.begin_next.new.self ≡ values_after (deed (shown c.args.self.now) entry) (shown c.args.self.now) = c.begin_next.ensures.values ∙ ap with_next_job c.enter.ensures.values in
    let script = c.begin_next.ensures.script ∙ c.enter.ensures.script in
    record {
      shows = λ Z H lawful shows. record {
        values_are = values ∙ ap (λ v. values_after (deed v entry) v) shows.values_are ∙ sym (standing_next Z H entry);
        script_is = script ∙ ap (λ s. script_from controller_scripts s (entry ∷ [])) shows.script_is ∙ sym (from-append controller_scripts None H (entry ∷ []));
      };
      left = λ outcome. subst (λ v. left v < left (shown c.args.self.now)) (sym c.begin_next.ensures.values) (omega (arith, c.enter.ensures.fewer outcome, begins_within (shown c.enter.new.self)));
    }
