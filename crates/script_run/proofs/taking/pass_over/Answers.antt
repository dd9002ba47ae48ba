use Rattle.script_run.specs.declared.stop.LineStop.TheVariants.{Step}
use Rattle.std.proofs.Common.{⊎_elim, ◌≡◌, ◌<◌, Ok, Err, arith, refl, sym, ◌∙◌, ap, subst}
use Rattle.std.proofs.lemmas.Result.{err_from_is_err_and}
use Rattle.script_text.specs.Script.{Given}
use Rattle.script_run.specs.Lines.{GivesItem, input}
use Rattle.script_run.proofs.LineLemmas.{none_left, some_left}
use Rattle.script_run.proofs.TakesLemmas.{reads_ok, reads_err, passes_start, passes_line, passes_end, passes_stop, passes_far}
use Rattle.script_run.proofs.taking.pass_over.Goals as goal

pub lines-init : goal.lines-init
lines-init g c = record {
  line = omega arith;
  same = refl;
  stands = λ text unread. passes_start g.M.Scripted.scripts text c.args.count _ unread;
}

pub returns-in_err-next_item : goal.returns-in_err-next_item
returns-in_err-next_item g c =
    let i = c.lines.invariant in
    let o = c.in_err-next_item.ensures in
    let to = input c.next_item.new.reader (g.S.Source.left c.next_item.new.source) (g.S.Source.faults c.next_item.new.source) in
    let q = err_from_is_err_and c.from_residual.result c.from_residual.ensures.1 in
    rw (q.1, q.2) record {
      answers = λ text unread. let p = i.stands text unread in passes_stop g.M.Scripted.scripts text c.args.count p to c.in_err-next_item.field-0.0 (o.given p.rest p.unread);
      far = λ text unread. let p = i.stands text unread in passes_far g.M.Scripted.scripts text c.args.count p to c.in_err-next_item.field-0.0 (o.given p.rest p.unread);
      reads = reads_err c.in_err-next_item.field-0.0 i.same o.reads;
      no_step = λ stop e. let is : c.in_err-next_item.field-0.0 ≡ Step stop = cc e in ⊎_elim (λ line. cc (line, is)) (λ input. cc (input, is)) o.line;
    }

pub returns-in_default : goal.returns-in_default
returns-in_default g c =
    let i = c.lines.invariant in
    let o = c.in_ok-next_item.ensures in
    let to = input c.next_item.new.reader (g.S.Source.left c.next_item.new.source) (g.S.Source.faults c.next_item.new.source) in
    let none : c.lines.left ≡ 0 = none_left c.in_ok-next_item.field-0 c.lines.left o.due c.in_default.is in record {
      answers = λ text unread.
          let p = i.stands text unread in
          sym p.bad ∙ ap (λ (x : Given g.row.M-Item.Denot). x.bad) (subst (λ x. GivesItem g.M.Scripted.scripts.item_of p.rest c.lines.left c.lines.number to (Ok x)) c.in_default.is (o.given p.rest p.unread)).1;
      far = λ text unread.
          let p = i.stands text unread in
          passes_end g.M.Scripted.scripts text c.args.count p to (subst (λ x. GivesItem g.M.Scripted.scripts.item_of p.rest c.lines.left c.lines.number to (Ok x)) c.in_default.is (o.given p.rest p.unread)).0 none
          (sym p.bad ∙ ap (λ (x : Given g.row.M-Item.Denot). x.bad) (subst (λ x. GivesItem g.M.Scripted.scripts.item_of p.rest c.lines.left c.lines.number to (Ok x)) c.in_default.is (o.given p.rest p.unread)).1);
      reads = reads_ok (Ok (tt {0})) i.same o.reads (λ e. let clash : Ok (tt {0}) ≡ Err _ = e in cc clash);
      no_step = λ stop e. cc e;
    }

pub lines-preserved : goal.lines-preserved
lines-preserved g c =
    let i = c.lines.invariant in
    let o = c.in_ok-next_item.ensures in
    let to = input c.next_item.new.reader (g.S.Source.left c.next_item.new.source) (g.S.Source.faults c.next_item.new.source) in
    let more : 0 < c.lines.left = some_left c.in_ok-next_item.field-0 c.lines.left o.due c.in-Some.field-0 c.in-Some.is in record {
      line = omega (arith, i.line, more);
      same = o.reads.same (λ e. cc e) ∙ i.same;
      stands = λ text unread.
          let p = i.stands text unread in
          passes_line g.M.Scripted.scripts text c.args.count c.in-Some.field-0 p (subst (λ x. GivesItem g.M.Scripted.scripts.item_of p.rest c.lines.left c.lines.number to (Ok x)) c.in-Some.is (o.given p.rest p.unread)) more;
    }
