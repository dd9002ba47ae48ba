use Rattle.std.proofs.Common.{◌∙◌, ap, []}
use Rattle.pef_words.specs.Going.{owed, owed_by}
use Rattle.pef_words.proofs.Paying.{last_paid}
use Rattle.pef_words.proofs.wording.Wording.finish.Goals as goal

pub returns-clause-paid : goal.returns-clause-paid
returns-clause-paid g c =
    (last_paid c.as_slice-2.result.now (owed c.args.self.now []) (g.K.Sink.written c.args.out.now) (g.K.Sink.written c.write.new.self) c.write.result
    (c.as_slice-2.ensures ∙ c.last-line.ensures ∙ ap (λ h. owed_by c.args.self.now.passes h []) c.as_slice.ensures) c.write.ensures.appended).0

pub returns-clause-cut : goal.returns-clause-cut
returns-clause-cut g c =
    (last_paid c.as_slice-2.result.now (owed c.args.self.now []) (g.K.Sink.written c.args.out.now) (g.K.Sink.written c.write.new.self) c.write.result
    (c.as_slice-2.ensures ∙ c.last-line.ensures ∙ ap (λ h. owed_by c.args.self.now.passes h []) c.as_slice.ensures) c.write.ensures.appended).1
