-- Where every alert fails, each stop has its turn: so a walk may stand at any place, and one that is resumed there goes on as one that
-- came there.
use Rattle.std.proofs.Common.{◌≡◌, ℕ, suc, zero, ◌+◌, ◌<◌, Bool, true, false, ◌||◌, cond, nat_eq, List, [], ◌∷◌, length, replicate, Some, refl, ap, ◌∙◌, arith}
use Rattle.std.specs.Prelude.{slice_get}
use Rattle.std.proofs.lemmas.List.{length-replicate}
use Rattle.policy_walk.specs.declared.stop.Stop.{Stop}
use Rattle.policy_walk.specs.Tried.{Any, tried_from, tried, place_after}

always : (zero_policy : Bool) (xs ys : List ℕ) → cond (zero_policy || true) xs ys ≡ xs
always true xs ys = refl
always false xs ys = refl

-- after failures alone, the places attempted are all from the first on
failed_at : (from n : ℕ) (stops : List Stop) → n < length stops → slice_get (tried_from Any false from stops (replicate n false)) n ≡ Some (from + n)
failed_at from n [] below = absurd (omega arith)
failed_at from zero (stop ∷ stops) below =
    ap (λ xs. slice_get xs 0) (always (nat_eq stop.policy 0) (from ∷ []) _) ∙ ap Some (omega arith)
failed_at from (suc n) (stop ∷ stops) below =
    ap (λ xs. slice_get xs (suc n)) (always (nat_eq stop.policy 0) (from ∷ tried_from Any false (from + 1) stops (replicate n false)) _)
    ∙ failed_at (from + 1) n stops (omega arith) ∙ ap Some (omega arith)

pub place_after-failures : (stops : List Stop) (place : ℕ) → place < length stops → place_after stops (replicate place false) ≡ Some place
place_after-failures stops place below =
    ap (slice_get (tried stops (replicate place false))) (length-replicate place false) ∙ failed_at 0 place stops below ∙ ap Some (omega arith)
