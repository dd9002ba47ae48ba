use Rattle.std.proofs.Common.{◌≡◌, ◌≤◌, ◌<◌, ◌-◌, ◌+◌, ℕ, List, Some, arith, refl, subst, inl, inr, ⊎_elim}
use Rattle.std.specs.Prelude.{IfSome}
use Rattle.pef_engine.specs.declared.entry.Entry.TheVariants.{Item}
use Rattle.std.proofs.lemmas.Result.{err_from_is_err_and}
use Rattle.script_run.specs.Lines.{IsReadyFor}
use Rattle.script_run.proofs.GoingLemmas.{goes_nothing}
use Rattle.script_run.proofs.LineLemmas.{none_left, some_left}
use Rattle.script_run.proofs.ScriptsLemmas.{next_allowed, closing_allowed, ready_more}
use Rattle.script_run.proofs.TakesLemmas.{takes_start, stops_next, close_stops, closes, takes_skip, takes_item, item_stops}
use Rattle.script_run.proofs.taking.take_lines.Goals as goal

pub lines-init : goal.lines-init
lines-init g c = record {
  live = c.requires.live;
  place = c.requires.place;
  line = omega arith;
  items = omega arith;
  skip = c.requires.taken;
  ready = let n : c.args.taken ≡ c.args.taken + (c.args.count - c.args.count) = omega arith in subst (IsReadyFor g.M.Machine.rules g.M.Scripted.scripts (g.M.Machine.view c.args.engine.now.machine) c.args.count) n c.requires.ready;
  takes = takes_start _ c.args.count c.args.taken _ (goes_nothing _ (g.met.B.Board.sound c.args.board.now) c.requires.live c.requires.place);
}

pub returns-in_err-item-clause-ran : goal.returns-in_err-item-clause-ran
returns-in_err-item-clause-ran g c =
    let i = c.lines.invariant in
    let o = c.in_err-item.ensures in
    let p = err_from_is_err_and c.from_residual.result c.from_residual.ensures.1 in
    rw (p.1, p.2) (stops_next _ c.args.count c.args.taken c.lines.skip c.lines.left c.lines.number c.lines.items i.takes c.in_err-item.field-0.0 o.given o.reads (⊎_elim (λ e. inl (cc e)) (λ e. inr (cc e)) o.line) i.ready.idle)

pub take_one-requires-clause-allowed : goal.take_one-requires-clause-allowed
take_one-requires-clause-allowed g c =
    let none : c.lines.left ≡ 0 = none_left c.in_ok-item.field-0 c.lines.left c.in_ok-item.ensures.due c.in_default.is in
    let all : c.lines.skip + (c.args.count - c.lines.left) ≡ c.args.count = omega (arith, none, c.lines.invariant.skip) in
    closing_allowed g.M.Machine.rules g.M.Scripted.scripts g.met.M.Scripted.scripted (g.M.Machine.view c.lines.engine.machine) (g.met.M.Machine.agrees c.lines.engine.machine) c.args.count (c.lines.skip + (c.args.count - c.lines.left)) c.lines.invariant.ready
    c.closing.result c.closing.ensures.item c.closing.ensures.entry all

pub returns-in_err-take_one-clause-ran : goal.returns-in_err-take_one-clause-ran
returns-in_err-take_one-clause-ran g c =
    let i = c.lines.invariant in
    let o = c.in_ok-item.ensures in
    let none : c.lines.left ≡ 0 = none_left c.in_ok-item.field-0 c.lines.left o.due c.in_default.is in
    let p = err_from_is_err_and c.from_residual-in_err-take_one.result c.from_residual-in_err-take_one.ensures.1 in
    rw (p.1, p.2) (close_stops _ c.args.count c.args.taken _ c.lines.skip c.lines.left c.lines.number c.lines.items i.takes c.in_ok-item.field-0 o.reads o.given c.closing.result c.closing.ensures.item c.in_default.is
    c.in_err-take_one.field-0.0 c.in_err-take_one.ensures.goes)

pub returns-in_default-clause-ran : goal.returns-in_default-clause-ran
returns-in_default-clause-ran g c =
    let i = c.lines.invariant in
    let o = c.in_ok-item.ensures in
    let none : c.lines.left ≡ 0 = none_left c.in_ok-item.field-0 c.lines.left o.due c.in_default.is in
    closes _ c.args.count c.args.taken _ c.lines.skip c.lines.left c.lines.number c.lines.items i.takes c.in_ok-item.field-0 o.reads o.given c.closing.result c.closing.ensures.item c.in_default.is none
    c.in_ok-take_one.ensures.goes c.in_ok-take_one.ensures.idle

pub lines-preserved-then-skip-gt0 : goal.lines-preserved-then-skip-gt0
lines-preserved-then-skip-gt0 g c =
    let i = c.lines.invariant in
    let o = c.in_ok-item.ensures in
    let more : 0 < c.lines.left = some_left c.in_ok-item.field-0 c.lines.left o.due c.in-Some.item c.in-Some.is in record {
      live = i.live;
      place = i.place;
      line = omega (arith, i.line, more);
      items = omega (arith, i.items);
      skip = omega (arith, i.skip, c.if-skip-gt0.true);
      ready =
          let within : c.lines.left ≤ c.args.count = omega (arith, i.items) in
          let n : c.lines.skip + (c.args.count - c.lines.left) ≡ (c.lines.skip - 1) + (c.args.count - (c.lines.left - 1)) = omega (arith, within, more, c.if-skip-gt0.true) in
          subst (IsReadyFor g.M.Machine.rules g.M.Scripted.scripts (g.M.Machine.view c.lines.engine.machine) c.args.count) n i.ready;
      takes = takes_skip _ c.args.count c.args.taken _ c.lines.skip c.lines.left c.lines.number c.lines.items i.takes c.in_ok-item.field-0 o.reads o.given c.in-Some.item c.in-Some.is more c.if-skip-gt0.true;
    }

pub take_one-requires-in-lines-clause-allowed : goal.take_one-requires-in-lines-clause-allowed
take_one-requires-in-lines-clause-allowed g c =
    let i = c.lines.invariant in
    let o = c.in_ok-item.ensures in
    let more : 0 < c.lines.left = some_left c.in_ok-item.field-0 c.lines.left o.due c.in-Some.item c.in-Some.is in
    let none : c.lines.skip ≡ 0 = omega (arith, c.if-skip-gt0.false) in
    let within : c.lines.skip + (c.args.count - c.lines.left) < c.args.count = omega (arith, i.items, more, none) in
    let from = subst (λ x. IfSome x (λ i. g.M.Machine.rules.is_entry (Item i) × (line : List ℕ) × (g.M.Scripted.scripts.item_of line ≡ Some i))) c.in-Some.is o.item in
    next_allowed g.M.Machine.rules g.M.Scripted.scripts g.met.M.Scripted.scripted (g.M.Machine.view c.lines.engine.machine) (g.met.M.Machine.agrees c.lines.engine.machine) c.args.count (c.lines.skip + (c.args.count - c.lines.left)) i.ready
    c.in-Some.item from.1 from.2 from.0 within

pub returns-in_err-take_one-2-clause-ran : goal.returns-in_err-take_one-2-clause-ran
returns-in_err-take_one-2-clause-ran g c =
    let i = c.lines.invariant in
    let o = c.in_ok-item.ensures in
    let more : 0 < c.lines.left = some_left c.in_ok-item.field-0 c.lines.left o.due c.in-Some.item c.in-Some.is in
    let none : c.lines.skip ≡ 0 = omega (arith, c.if-skip-gt0.false) in
    let p = err_from_is_err_and c.from_residual-in_err-take_one-2.result c.from_residual-in_err-take_one-2.ensures.1 in
    rw (p.1, p.2) (item_stops _ c.args.count c.args.taken _ c.lines.skip c.lines.left c.lines.number c.lines.items i.takes c.in_ok-item.field-0 o.reads o.given c.in-Some.item c.in-Some.is more none
    c.in_err-take_one-2.field-0.0 c.in_err-take_one-2.ensures.goes)

pub lines-preserved : goal.lines-preserved
lines-preserved g c =
    let i = c.lines.invariant in
    let o = c.in_ok-item.ensures in
    let more : 0 < c.lines.left = some_left c.in_ok-item.field-0 c.lines.left o.due c.in-Some.item c.in-Some.is in
    let none : c.lines.skip ≡ 0 = omega (arith, c.if-skip-gt0.false) in
    let from = subst (λ x. IfSome x (λ i. g.M.Machine.rules.is_entry (Item i) × (line : List ℕ) × (g.M.Scripted.scripts.item_of line ≡ Some i))) c.in-Some.is o.item in
    let one = c.in_ok-take_one-2.ensures in record {
      live = (one.goes.live refl).0;
      place = (one.goes.live refl).1;
      line = omega (arith, i.line, more);
      items = omega (arith, i.items, more);
      skip = omega (arith, none);
      ready =
          let within : c.lines.left ≤ c.args.count = omega (arith, i.items) in
          let n : (c.lines.skip + (c.args.count - c.lines.left)) + 1 ≡ c.lines.skip + (c.args.count - (c.lines.left - 1)) = omega (arith, within, more, none) in
          subst (IsReadyFor g.M.Machine.rules g.M.Scripted.scripts (g.M.Machine.view c.take_one-in-lines.new.engine.machine) c.args.count) n
          (ready_more g.M.Machine.rules g.M.Scripted.scripts g.met.M.Scripted.scripted (g.M.Machine.view c.lines.engine.machine) (g.met.M.Machine.agrees c.lines.engine.machine) c.args.count (c.lines.skip + (c.args.count - c.lines.left)) i.ready
          (g.M.Machine.view c.take_one-in-lines.new.engine.machine) c.in-Some.item from.1 from.2 (one.goes.moves refl) one.idle);
      takes = takes_item _ c.args.count c.args.taken _ c.lines.skip c.lines.left c.lines.number c.lines.items i.takes c.in_ok-item.field-0 o.reads o.given c.in-Some.item c.in-Some.is more none one.goes;
    }
