use Rattle.std.proofs.Common.{◌∙◌, ap}
use Rattle.pef_words.specs.Going.{ended_line}
use Rattle.pef_words.specs.Worded.{worded_from}
use Rattle.pef_words.proofs.Paying.{end_part, end_paid}
use Rattle.pef_words.proofs.wording.Wording.end_line.Goals as goal

pub returns-in-Err-clause-cut : goal.returns-in-Err-clause-cut
returns-in-Err-clause-cut g c =
    λ text. end_part c.args.self.now.passes c.args.self.now.held c.as_slice-2.result.now text (g.K.Sink.written c.args.out.now) (g.K.Sink.written c.write.new.self)
    c.in-Err.failed (c.as_slice-2.ensures ∙ c.ended-line.ensures ∙ ap (ended_line c.args.self.now.passes) c.as_slice.ensures) c.in-Err.ensures.appended

pub returns-in-Ok-clause-paid : goal.returns-in-Ok-clause-paid
returns-in-Ok-clause-paid g c =
    λ text. end_paid c.args.self.now.passes c.args.self.now.held c.as_slice-2.result.now text (g.K.Sink.written c.args.out.now) (g.K.Sink.written c.write.new.self)
    (worded_from c.clear.new.self text) (c.as_slice-2.ensures ∙ c.ended-line.ensures ∙ ap (ended_line c.args.self.now.passes) c.as_slice.ensures) (ap (λ l. worded_from l text) c.clear.ensures) c.in-Ok.ensures.appended
