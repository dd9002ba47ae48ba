use Rattle.std.proofs.Common.{rules, ◌≡◌, ◌∷◌, [], ◌++◌, ◌∙◌, subst}
use Rattle.pef_words.specs.Going.{owed, Paid}
use Rattle.pef_words.proofs.Paying.{paid_then, part_then}
use Rattle.pef_words.proofs.wording.Wording.take_all.Goals as goal

pub returns-in-Err-clause-cut : goal.returns-in-Err-clause-cut
returns-in-Err-clause-cut g c = λ text.
    let written = g.K.Sink.written in
    let before = written c.args.out.now in let middle = written c.octets.out in
    let start = owed c.args.self.now (c.args.octets.now ++ text) in
    let more = c.in-Some.behind.now ++ text in
    let first = subst (λ r. Paid before middle start (owed c.octets.self (r ++ text))) c.in-Some.ensures (c.octets.invariant.paid text) in
    part_then before middle (written c.take.new.out) start (owed c.octets.self (c.in-Some.octet.now ∷ more)) first (c.in-Err.ensures.cut more)

pub octets-preserved : goal.octets-preserved
octets-preserved g c =
    let written = g.K.Sink.written in
    let before = written c.args.out.now in let middle = written c.octets.out in
    record {
      same = c.in-Ok.ensures.cause.same ∙ c.octets.invariant.same;
      paid = λ text.
          let start = owed c.args.self.now (c.args.octets.now ++ text) in
          let more = c.in-Some.behind.now ++ text in
          let first = subst (λ r. Paid before middle start (owed c.octets.self (r ++ text))) c.in-Some.ensures (c.octets.invariant.paid text) in
          paid_then before middle (written c.take.new.out) start (owed c.octets.self (c.in-Some.octet.now ∷ more)) (owed c.take.new.self more) first (c.in-Ok.ensures.paid more);
    }

pub returns-clause-paid : goal.returns-clause-paid
returns-clause-paid g c =
    let over : c.octets.rest.now ≡ [] = search rules in
    λ text. subst (λ r. Paid (g.K.Sink.written c.args.out.now) (g.K.Sink.written c.octets.out) (owed c.args.self.now (c.args.octets.now ++ text)) (owed c.octets.self (r ++ text))) over
    (c.octets.invariant.paid text)
