use Rattle.std.proofs.Common.{◌≡◌, ◌∙◌, ap, ℕ, eqb}
use Rattle.std.specs.Int.{bit_at}
use Rattle.filter_table.specs.Filters.{numbered}
use Rattle.lan_dest.specs.Kept.{kept}
use Rattle.pef_config.specs.Places.{our_sizes, filter_at}
use Rattle.pef_config.specs.Kept.{tables}
use Rattle.pef_match.specs.Alerts.{targets_of}
use Rattle.pef_match.specs.Job.{act_by}
use Rattle.pef_match.proofs.Whole.{job_whole, parts}
use Rattle.pef_match.proofs.selecting.job_of.Goals as goal

pub returns : goal.returns
returns c =
    let t = tables c.args.config.now in
    let event = c.args.event.now in
    let filters = c.as_slice.result.now in
    let bits = c.asked_by-asked.result in
    let each : (n : ℕ) → numbered filters n ≡ filter_at t n = λ n. ap (λ fs. numbered fs n) c.as_slice.ensures.filters ∙ c.filters.ensures n in
    let lan = kept c.args.lan.now in
    let ports = c.args.ports.now in
    let targets = targets_of our_sizes t lan ports event in
    c.new.ensures
    ∙ ap (λ a. parts a c.as_slice-2.result.now c.has_oem.result event) c.act_of.ensures
    ∙ ap (λ l. parts (act_by (λ n. eqb (bit_at bits n) 1)) l c.has_oem.result event) (c.as_slice-2.ensures.value ∙ c.targets_of-targets.ensures.value)
    ∙ ap (λ o. parts (act_by (λ n. eqb (bit_at bits n) 1)) targets o event) c.has_oem.ensures
    ∙ job_whole t lan ports filters c.actions.result bits event c.as_slice.ensures.count each c.actions.ensures c.asked_by-asked.ensures
