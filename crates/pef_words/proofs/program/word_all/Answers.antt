use Rattle.std.proofs.Common.{[], Err, refl, sym, ◌∙◌, ap, subst, arith}
use Rattle.pef_words.specs.Going.{owed}
use Rattle.pef_words.specs.Worded.{worded}
use Rattle.pef_words.proofs.Paying.{none_paid, paid_then, part_then, part_of_paid, stop_is}
use Rattle.board_core.specs.Causes.{Rose}
use Rattle.pef_words.specs.declared.program.Stop.TheVariants.{Input, Output}
use Rattle.pef_words.proofs.program.word_all.Goals as goal

pub chunks-init : goal.chunks-init
chunks-init g c = record {
  reads = refl;
  writes = refl;
  paid = λ text left. (text, left, omega arith, none_paid (g.K.Sink.written c.args.out.now) (worded text) (owed c.new-wording.result text) (sym (c.new-wording.ensures text)));
}

pub returns-in-Ok-false-clause-all : goal.returns-in-Ok-false-clause-all
returns-in-Ok-false-clause-all g c = λ text left.
    let written = g.K.Sink.written in
    let i = c.chunks.invariant.paid text left in
    paid_then (written c.args.out.now) (written c.chunks.out) (written c.step.new.out) (worded text) (owed c.chunks.wording i.0) [] i.3
    (c.in-Ok-false.ensures.paid.over c.in-Ok-false.field-0-test i.0 i.1)

pub returns-in-Ok-false-clause-reads : goal.returns-in-Ok-false-clause-reads
returns-in-Ok-false-clause-reads g c = c.in-Ok-false.ensures.reads ∙ c.chunks.invariant.reads

pub returns-in-Ok-false-clause-writes : goal.returns-in-Ok-false-clause-writes
returns-in-Ok-false-clause-writes g c = c.in-Ok-false.ensures.writes ∙ c.chunks.invariant.writes

pub returns-in-Err-clause-cut : goal.returns-in-Err-clause-cut
returns-in-Err-clause-cut g c = λ text left.
    let written = g.K.Sink.written in
    let i = c.chunks.invariant.paid text left in
    part_then (written c.args.out.now) (written c.chunks.out) (written c.step.new.out) (worded text) (owed c.chunks.wording i.0) i.3 (c.in-Err.ensures.cut i.0 i.1)

pub returns-in-Err-clause-input : goal.returns-in-Err-clause-input
returns-in-Err-clause-input g c = λ is.
    subst (λ n. Rose n (g.S.Source.faults c.step.new.source)) c.chunks.invariant.reads (c.in-Err.ensures.input (ap Err (stop_is c.in-Err.stop Input is)))

pub returns-in-Err-clause-output : goal.returns-in-Err-clause-output
returns-in-Err-clause-output g c = λ is.
    subst (λ n. Rose n (g.K.Sink.faults c.step.new.out)) c.chunks.invariant.writes (c.in-Err.ensures.output (ap Err (stop_is c.in-Err.stop Output is)))

pub chunks-preserved : goal.chunks-preserved
chunks-preserved g c =
    let written = g.K.Sink.written in
    record {
      reads = c.in-Ok-true.ensures.reads ∙ c.chunks.invariant.reads;
      writes = c.in-Ok-true.ensures.writes ∙ c.chunks.invariant.writes;
      paid = λ text left.
          let i = c.chunks.invariant.paid text left in
          let s = c.in-Ok-true.ensures.paid.goes_on c.in-Ok-true.field-0-test i.0 i.1 in
          (s.0, s.1, omega (arith, i.2, s.2), paid_then (written c.args.out.now) (written c.chunks.out) (written c.step.new.out) (worded text) (owed c.chunks.wording i.0) (owed c.step.new.wording s.0) i.3 s.3);
    }

pub returns-clause-cut : goal.returns-clause-cut
returns-clause-cut g c = λ text left.
    let written = g.K.Sink.written in
    let i = c.chunks.invariant.paid text left in
    part_of_paid (written c.args.out.now) (written c.chunks.out) (worded text) (owed c.chunks.wording i.0) i.3

pub returns-clause-endless : goal.returns-clause-endless
returns-clause-endless g c = λ is text left. let i = c.chunks.invariant.paid text left in omega (arith, i.2, c.chunks-test.false)
