use Rattle.std.proofs.Common.{◌≡◌, ◌∙◌}
use Rattle.std.proofs.Math.Nat.{min-eq_left}
use Rattle.pef_core.specs.Shown.{summary_by}
use Rattle.pef_core.specs.View.{shown, due_of}
use Rattle.pef_core.proofs.Bound.{mark_within}
use Rattle.pef_core.proofs.Shown.{summary_is}
use Rattle.pef_core.proofs.controller.Controller.show.Goals as goal

pub returns : goal.returns
returns c = λ Z H shows.
    let self = c.args.self.now in
    let mark : c.processed_count.result ≡ self.mark = c.processed_count.ensures ∙ min-eq_left (mark_within self Z H shows) in
    let here : record {
      records = c.len.result;
      processed = c.processed_count.result;
      last = c.id_or.result;
      job = c.job.result;
      status = self.status;
      ticks = self.ticks;
      delay = self.delay;
      postpone = c.timer_octet.result;
      sequence = self.sequence;
      pending = c.is_some.result;
    } ≡ summary_by (shown self) (due_of self) =
    cc (c.len.ensures.count, mark, c.id_or.ensures, c.processed.ensures, c.job.ensures, c.timer_octet.ensures, c.is_some.ensures, c.next.ensures) in
    here ∙ summary_is self Z H shows
