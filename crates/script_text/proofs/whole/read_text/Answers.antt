use Rattle.std.proofs.Common.{rules, ◌≡◌, ◌≤◌, ◌+◌, length, take, ◌++◌, arith, sym, ◌∙◌, ap, length-take}
use Rattle.script_text.proofs.Pieces.{read_on, read_so_far}
use Rattle.script_text.proofs.whole.read_text.Goals as goal

pub returns-then-count-len-clause-taken : goal.returns-then-count-len-clause-taken
returns-then-count-len-clause-taken g c = λ text told.
    let few : length c.chunks.text.items + c.in-Ok.count ≤ 65537 = search (rules, c.in-Ok.ensures, c.min-room.ensures, c.len.ensures, length-take, arith) in
    read_so_far 65537 text c.chunks.text.items c.read.new.into (g.S.Source.left c.chunks.source) (g.S.Source.left c.read.new.self) c.in-Ok.count (c.chunks.invariant.reading text told) c.in-Ok.ensures.taken few

pub chunks-preserved : goal.chunks-preserved
chunks-preserved g c = record {
  fits = search (rules, c.if-count-len.false, c.extend_from_slice.ensures.len, c.len-in-chunks.ensures, arith);
  reading = λ text told.
      let on = read_on text c.chunks.text.items c.read.new.into (g.S.Source.left c.chunks.source) (g.S.Source.left c.read.new.self) c.in-Ok.count (c.chunks.invariant.reading text told) c.in-Ok.ensures.taken in
      let items : c.extend_from_slice.new.self.items ≡ c.chunks.text.items ++ take c.in-Ok.count c.read.new.into = rw c.in-Ok-extend_from_slice.is at c.extend_from_slice.ensures.items in
      (on.0, on.1, on.2 ∙ ap (λ l. l ++ on.0) (sym items));
  faults = search (rules, c.in-Ok.ensures, c.chunks.invariant);
}

pub returns-in-Err-extend_from_slice-clause-taken :
    goal.returns-in-Err-extend_from_slice-clause-taken
returns-in-Err-extend_from_slice-clause-taken g c = λ text told.
    let few : length c.chunks.text.items + c.in-Ok.count ≤ 65537 = search (rules, c.in-Ok.ensures, c.min-room.ensures, c.len.ensures, length-take, arith) in
    read_so_far 65537 text c.chunks.text.items c.read.new.into (g.S.Source.left c.chunks.source) (g.S.Source.left c.read.new.self) c.in-Ok.count (c.chunks.invariant.reading text told) c.in-Ok.ensures.taken few
