use Rattle.std.proofs.Common.{Result, Ok, Err, OnErr, length, Some, refl, sym, ◌∙◌, ap, subst}
use Rattle.script_text.specs.Lines.{HasNoEnd}
use Rattle.script_text.specs.Reading.{GivesOctet, FailsWithin}
use Rattle.script_text.proofs.Read.{IsReading}
use Rattle.script_text.proofs.LinesLemmas.{reading_start, reading_octet, IsNext, next_ended, finds, finds_last, fails_within, too_long, no_end-push, not_below}
use Rattle.script_text.proofs.reader.Reader.line.Goals as goal

any_err : {T E : Type 0} (r : Result T E) (P : Type 0) → P → OnErr r P
any_err (Ok x) P p = tt
any_err (Err e) P p = p

pub octets-init : goal.octets-init
octets-init g c = record {
  no_end = subst HasNoEnd (sym c.clear.ensures) tt;
  reading = λ text left. subst (IsReading text c.args.self.now (g.S.Source.left c.args.source.now)) (sym c.clear.ensures) (reading_start text c.args.self.now (g.S.Source.left c.args.source.now) left);
  faults = refl;
}

pub returns-in-None-clause-found : goal.returns-in-None-clause-found
returns-in-None-clause-found g c = λ text left.
    let r = c.octets.invariant.reading text left in
    let after = g.S.Source.left c.next.new.source in
    let gives = subst (GivesOctet r.rest c.next.new.self after) c.in-None.is (c.in_ok-next.ensures.octet r.rest r.left) in
    finds_last text c.octets.line c.octets.self c.next.new.self (g.S.Source.left c.octets.source) after c.last.result c.last.ensures.line c.last.ensures.long c.last.ensures.none r c.octets.invariant.no_end gives

pub returns-in-Some-eq10-clause-found : goal.returns-in-Some-eq10-clause-found
returns-in-Some-eq10-clause-found g c = λ text left.
    let r = c.octets.invariant.reading text left in
    let after = g.S.Source.left c.next.new.source in
    let gives = subst (GivesOctet r.rest c.next.new.self after) (c.in-Some-eq10.is ∙ ap Some c.in-Some-eq10.field-0-test) (c.in_ok-next.ensures.octet r.rest r.left) in
    finds text c.drop_return.new.line c.next.new.self after c.fits.result c.fits.ensures.line c.fits.ensures.long c.fits.ensures.other
    (subst (IsNext text c.next.new.self after) (sym c.drop_return.ensures) (next_ended text c.octets.line c.octets.self c.next.new.self (g.S.Source.left c.octets.source) after r c.octets.invariant.no_end gives))

pub returns-then-not-push-clause-found : goal.returns-then-not-push-clause-found
returns-then-not-push-clause-found g c = λ text left.
    let r = c.octets.invariant.reading text left in
    let after = g.S.Source.left c.next.new.source in
    let gives = subst (GivesOctet r.rest c.next.new.self after) c.in-Some.is (c.in_ok-next.ensures.octet r.rest r.left) in
    too_long text c.octets.line c.octets.self c.next.new.self (g.S.Source.left c.octets.source) after c.in-Some.octet r c.octets.invariant.no_end c.in-Some.octet-test.1
    (not_below (length c.octets.line) 1201 c.push.result c.if-not-push.true c.push.ensures.room) gives

pub octets-preserved : goal.octets-preserved
octets-preserved g c =
    let pushed = c.push.ensures.pushed c.if-not-push.false in record {
      no_end = subst HasNoEnd (sym pushed) (no_end-push c.octets.line c.in-Some.octet c.octets.invariant.no_end c.in-Some.octet-test.1);
      reading = λ text left.
          let r = c.octets.invariant.reading text left in
          let after = g.S.Source.left c.next.new.source in
          let gives = subst (GivesOctet r.rest c.next.new.self after) c.in-Some.is (c.in_ok-next.ensures.octet r.rest r.left) in
          subst (IsReading text c.next.new.self after) (sym pushed) (reading_octet text c.octets.line c.octets.self c.next.new.self (g.S.Source.left c.octets.source) after c.in-Some.octet r gives);
      faults = c.in_ok-next.ensures.cause.same ∙ c.octets.invariant.faults;
    }

pub returns-in_err-next-clause-failed : goal.returns-in_err-next-clause-failed
returns-in_err-next-clause-failed g c = λ text left.
    let r = c.octets.invariant.reading text left in
    let unread = rw c.in_err-next.was at (c.next.ensures.failed r.rest r.left) in
    any_err c.from_residual.result (FailsWithin text (g.S.Source.left c.next.new.source))
    (fails_within text c.octets.line c.octets.self (g.S.Source.left c.octets.source) (g.S.Source.left c.next.new.source) r c.octets.invariant.no_end unread)
