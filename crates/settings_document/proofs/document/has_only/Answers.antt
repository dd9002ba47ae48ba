use Rattle.std.proofs.Common.{◌≡◌, ◌∙◌, sym, ap, string_bytes, true, false}
use Rattle.settings_document.specs.Document.{has_key}
use Rattle.settings_document.proofs.Documents.{all_named, names_tested, name_known, name_refused, names_over}
use Rattle.settings_document.proofs.document.has_only.Goals as goal

pub loop-name-init : goal.loop-name-init
loop-name-init c = (tt, tt, names_tested c.args.keys.now c.args.document.now.entries ∙ ap (all_named c.args.keys.now) (sym (c.into_iter-name-iterator.ensures.into_iter_gives ∙ c.keys-name-items.ensures.rest)))

pub returns-then-not-has_key : goal.returns-then-not-has_key
returns-then-not-has_key c =
    let step = rw c.in-Some.is at c.next.ensures.steps in
    let other : has_key c.args.keys.now (string_bytes c.in-Some.name.now) ≡ false = ap (has_key c.args.keys.now) (sym c.as_str.ensures.value) ∙ sym c.has_key.ensures ∙ c.if-not-has_key.true in
    name_refused c.args.keys.now _ _ _ c.in-Some.name.now c.loop-name.invariant.2 step other

pub loop-name-preserved : goal.loop-name-preserved
loop-name-preserved c =
    let step = rw c.in-Some.is at c.next.ensures.steps in
    let known : has_key c.args.keys.now (string_bytes c.in-Some.name.now) ≡ true = ap (has_key c.args.keys.now) (sym c.as_str.ensures.value) ∙ sym c.has_key.ensures ∙ c.if-not-has_key.false in
    (tt, tt, name_known c.args.keys.now _ _ _ c.in-Some.name.now c.loop-name.invariant.2 step known)

pub returns : goal.returns
returns c =
    let step = rw c.in-None.is at c.next.ensures.steps in
    names_over c.args.keys.now _ _ c.loop-name.invariant.2 step.0
