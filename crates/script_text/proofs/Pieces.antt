-- Texts that are read in pieces.
use Rattle.std.proofs.Common.{◌≡◌, ◌≤◌, ◌+◌, ℕ, List, ◌++◌, length, take, Option, Some, None, Ok, refl, sym, ◌∙◌, ap, arith, length-append, length-take, append_assoc, subst}
use Rattle.board_core.specs.Source.{Takes}
use Rattle.board_core.specs.declared.source.SourceFailed.{SourceFailed}
use Rattle.script_text.specs.Whole.{TakesAtMost}

-- these octets of the text were read, and what is left is this
abbrev pub HasRead : List ℕ → List ℕ → Option (List ℕ) → Type 0
HasRead text items left = (rest : List ℕ) × (left ≡ Some rest) × (text ≡ items ++ rest)

-- what a read takes stands behind what was read before
pub read_on : (text items into : List ℕ) (old new : Option (List ℕ)) (count : ℕ) → HasRead text items old → Takes {E = SourceFailed} old new (Ok count) into
    → HasRead text (items ++ take count into) new
read_on text items into old new count read takes = by new (subst (λ o. Takes {E = SourceFailed} o new (Ok count) into) read.1 takes)
  where
    by : (new : Option (List ℕ)) → Takes {E = SourceFailed} (Some read.0) new (Ok count) into → HasRead text (items ++ take count into) new
    by (Some more) t = (more, refl, read.2 ∙ ap (λ l. items ++ l) t.1 ∙ sym (append_assoc items (take count into) more))
    by None t = absurd t

-- how many octets are taken then
pub read_so_far : (most : ℕ) (text items into : List ℕ) (old new : Option (List ℕ)) (count : ℕ) → HasRead text items old → Takes {E = SourceFailed} old new (Ok count) into
    → length items + count ≤ most → TakesAtMost most text new
read_so_far most text items into old new count read takes few =
    let on = read_on text items into old new count read takes in
    (items ++ take count into, on.0, on.2, on.1, let l = length-append items (take count into) in let t = length-take count into in omega (arith, l, t, few))
