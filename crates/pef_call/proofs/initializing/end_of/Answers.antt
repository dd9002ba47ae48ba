use Rattle.std.proofs.Common.{inl, inr, ⊎_elim, Err, sym, ◌∙◌, ap, subst}
use Rattle.pef_call.specs.Init.{fault_ending, IsInitEnd}
use Rattle.pef_call.proofs.Faults.{at_settings, at_input, at_disk, at_formatted, is_init_end, not_done, same_fault}
use Rattle.pef_call.proofs.initializing.end_of.Goals as goal

pub returns-in-Err : goal.returns-in-Err
returns-in-Err g c =
    let fault = c.in-Err.fault in
    let end = c.ending.ensures in
    let make = c.make.ensures in record {
      is_end = subst IsInitEnd (sym end) (is_init_end fault);
      made = λ done. absurd (not_done fault (sym end ∙ done));
      moments = make.moments;
      untouched = λ done disk tells. c.in-Err.ensures.untouched tells (λ is. disk (end ∙ ap fault_ending is));
      formatted = λ is. make.formatted (c.in-Err.is ∙ ap Err (at_formatted fault (sym end ∙ is)));
      is_formatted = λ tells is. ⊎_elim (λ r. inl (end ∙ ap fault_ending (same_fault c.make.result fault _ c.in-Err.is r))) (λ r. inr (end ∙ ap fault_ending (same_fault c.make.result fault _ c.in-Err.is r))) (make.is_formatted tells is);
      refused = λ refusal is. make.refused refusal (c.in-Err.is ∙ ap Err (at_settings fault refusal (sym end ∙ is)));
      input = λ is. make.input (c.in-Err.is ∙ ap Err (at_input fault (sym end ∙ is)));
      disk = λ is. make.disk (c.in-Err.is ∙ ap Err (at_disk fault (sym end ∙ is)));
      disk_same = λ not. make.disk_same (λ is. not (end ∙ ap fault_ending (same_fault c.make.result fault _ c.in-Err.is is)));
      input_same = λ not. make.input_same (λ is. not (end ∙ ap fault_ending (same_fault c.make.result fault _ c.in-Err.is is)));
      run = make.run;
      later = make.later;
    }
