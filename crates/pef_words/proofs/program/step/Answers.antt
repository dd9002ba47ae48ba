use Rattle.std.proofs.Common.{subst, sym}
use Rattle.pef_words.specs.Going.{owed, Paid, PaidPart}
use Rattle.pef_words.proofs.Paying.{none_part, took}
use Rattle.pef_words.proofs.program.step.Goals as goal

pub returns-in-Err-clause-cut : goal.returns-in-Err-clause-cut
returns-in-Err-clause-cut g c = λ text left. none_part (g.K.Sink.written c.args.out.now) (owed c.args.wording.now text)

pub returns-in-Ok-take_all-clause-paid : goal.returns-in-Ok-take_all-clause-paid
returns-in-Ok-take_all-clause-paid g c =
    let written = g.K.Sink.written in
    let old = g.S.Source.left c.args.source.now in let new = g.S.Source.left c.read.new.self in
    let paid = c.in-Ok-take_all.ensures.paid in
    record {
      goes_on = λ _ text left.
          let t = took old new c.in-Ok.count c.read.new.into text left c.if-count-eq0.false c.in-Ok.ensures.taken in
          (t.0, t.1, t.3, subst (λ x. Paid (written c.args.out.now) (written c.take_all.new.out) (owed c.args.wording.now x) (owed c.take_all.new.self t.0)) (sym t.2) (paid t.0));
      over = λ e. absurd (cc e);
    }

pub returns-in-Err-take_all-clause-cut : goal.returns-in-Err-take_all-clause-cut
returns-in-Err-take_all-clause-cut g c = λ text left.
    let written = g.K.Sink.written in
    let old = g.S.Source.left c.args.source.now in let new = g.S.Source.left c.read.new.self in
    let t = took old new c.in-Ok.count c.read.new.into text left c.if-count-eq0.false c.in-Ok.ensures.taken in
    subst (λ x. PaidPart (written c.args.out.now) (written c.take_all.new.out) (owed c.args.wording.now x)) (sym t.2) (c.in-Err-take_all.ensures.cut t.0)
