-- The first calls of a list, up to the first that fails a test.
use Rattle.std.proofs.Common.{◌≡◌, ℕ, zero, suc, ◌≤◌, take, Bool, true, false, cond, List, [], ◌∷◌, ◌++◌, sym, ◌∙◌, ap, subst, arith}
use Rattle.std.specs.List.{take_while}
use Rattle.std.proofs.lemmas.List.Sums.{take_while-cons}
use Rattle.board_core.specs.declared.call.Call.{Call}
use Rattle.board_core.specs.declared.call.Effect.{Effect}
use Rattle.board_core.specs.declared.call.Effect.TheVariants.{Wrote, Spoiled, Synced, Issued}
use Rattle.board_core.specs.Moments.{State, after, after_all}

-- one more that fails adds nothing
pub take_while_push_no : {X : Type 0} (p : X → Bool) (xs : List X) (y : X) → p y ≡ false → take_while p (xs ++ y ∷ []) ≡ take_while p xs
take_while_push_no p [] y fails = take_while-cons p y [] ∙ ap (λ b. cond b (y ∷ take_while p []) []) fails
take_while_push_no p (x ∷ xs) y fails =
    take_while-cons p x (xs ++ y ∷ []) ∙ ap (λ l. cond (p x) (x ∷ l) []) (take_while_push_no p xs y fails) ∙ sym (take_while-cons p x xs)

-- the number of steps issued never falls
issued_after : (s : State) (effect : Effect) → s.issued ≤ (after s effect).issued
issued_after s (Wrote place octets) = omega arith
issued_after s (Spoiled place count) = omega arith
issued_after s Synced = omega arith
issued_after s Issued = omega arith

issued_all : (s : State) (calls : List Call) → s.issued ≤ (after_all s calls).issued
issued_all s [] = omega arith
issued_all s (c ∷ calls) = omega (arith, issued_after s c.effect, issued_all (after s c.effect) calls)

pub issued_while : (q : Call → Bool) (s : State) (calls : List Call) → (after_all s (take_while q calls)).issued ≤ (after_all s calls).issued
issued_while q s [] = omega arith
issued_while q s (c ∷ calls) =
    subst (λ l. (after_all s l).issued ≤ (after_all s (c ∷ calls)).issued) (sym (take_while-cons q c calls))
    (elim (q c) as (λ b. (after_all s (cond b (c ∷ take_while q calls) [])).issued ≤ (after_all s (c ∷ calls)).issued)
    [ true ↦ issued_while q (after s c.effect) calls | false ↦ issued_all s (c ∷ calls) ])

pub issued_take : (s : State) (count : ℕ) (calls : List Call) → (after_all s (take count calls)).issued ≤ (after_all s calls).issued
issued_take s zero calls = issued_all s calls
issued_take s (suc count) [] = omega arith
issued_take s (suc count) (c ∷ calls) = issued_take (after s c.effect) count calls
