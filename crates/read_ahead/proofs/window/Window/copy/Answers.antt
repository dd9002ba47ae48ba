-- What is copied is what lies within the kept octets, and so a part of the file.
use Rattle.std.proofs.Common.{◌≡◌, ◌+◌, ◌-◌, length, take, drop, sym, ◌∙◌, ap, arith}
use Rattle.read_ahead.proofs.Parts.{part_of}
use Rattle.read_ahead.proofs.window.Window.copy.Goals as goal

pub returns : goal.returns
returns c = λ file same.
    let count = length c.args.into.now in
    let first = c.args.place - c.args.self.now.place in
    let all : (first + count) - first ≡ count = omega arith in
    let copied = c.copy_from_slice.ensures in
    copied.after ∙ (λ i. take (all i) (drop first (c.deref.ensures.value i)))
    ∙ part_of c.args.self.now.octets.items file c.args.self.now.place c.args.self.now.count c.args.place count c.requires.start c.requires.end same
    ∙ ap (λ n. take n (drop c.args.place file)) (sym copied.len)
