use Rattle.std.proofs.Common.{◌≡◌, ◌-◌, ◌≤◌, ◌++◌, length, take, drop, sym, ◌∙◌, ap, arith, length-append, length-drop}
use Rattle.std.proofs.lemmas.List.{take_at, take_rest, take-append-drop, drop-drop, length-take-le, nil_from_length}
use Rattle.board_core.specs.MemorySource.{left_in}
use Rattle.board_core.proofs.memory_source.MemSourceSource.read.Goals as goal

pub returns-clause-taken : goal.returns-clause-taken
returns-clause-taken c =
    let content = c.args.self.now.content.items in
    let place = c.args.self.now.place in
    let left = left_in c.args.self.now in
    let into = c.args.into.now in
    let count = c.min-count.result in
    let got = c.copy_from_slice.new.self in
    let file = c.deref.result.now in
    let all : take (length file - place) (drop place file) ≡ left = take_rest file place ∙ ap (drop place) c.deref.ensures.value in
    let bound : count ≤ length left = omega (arith, ap length all, c.min-count.ensures) in
    let copied : got ≡ take count left = c.copy_from_slice.ensures.after ∙ ap (take count) all in
    let size : length got ≡ count = ap length copied ∙ length-take-le count left bound in
    let front : take count (got ++ drop count into) ≡ take count left = take_at got (drop count into) count size ∙ copied in (
      omega (arith, size, length-append got (drop count into)),
      sym (take-append-drop count left) ∙ (λ i. sym front i ++ drop-drop count place content i),
      λ none some. nil_from_length left (omega (arith, none, some, ap length all, c.min-count.ensures, size, length-append got (drop count into), length-drop count into)),
    )
