use Rattle.std.proofs.Common.{◌<◌, ◌≤◌, ◌∷◌, length, ◌+◌, take, drop, get_or, add-one, arith, sym, ◌∙◌, ap}
use Rattle.script_text.proofs.LinesLemmas.{held_none, held_some, gives_octet, gives_none}
use Rattle.script_text.proofs.reader.Reader.next.Goals as goal

pub returns-then-self-clause-octet : goal.returns-then-self-clause-octet
returns-then-self-clause-octet g c = λ text left.
    gives_none text c.fill.new.self (g.S.Source.left c.fill.new.source)
    (sym c.self.view_is ∙ held_none c.self.inside.chunk c.self.inside.at c.self.inside.end c.if-self.true)
    (c.in_ok-fill.ensures.over text left) (c.fill.ensures.filled text left)

pub returns-clause-octet : goal.returns-clause-octet
returns-clause-octet g c = λ text left.
    let r = c.self.inside in
    let before : r.at < r.end = omega (arith, c.self.invariant, c.if-self.false) in
    let fits : r.end ≤ length r.chunk = omega (arith, c.self.invariant, c.self.told) in
    gives_octet text c.fill.new.self (drop (r.at + 1) (take r.end r.chunk)) (g.S.Source.left c.fill.new.source) (get_or r.chunk r.at 0)
    (sym c.self.view_is ∙ held_some r.chunk r.at r.end before fits ∙ ap (λ n. get_or r.chunk r.at 0 ∷ drop n (take r.end r.chunk)) (sym (add-one r.at)))
    (c.fill.ensures.filled text left)
