-- Which IDs are held, and that a log stays lawful where a record with a new one is added.
use Rattle.std.proofs.Common.{◌≡◌, ◌≢◌, ◌↔◌, ℕ, ◌<◌, ◌≤◌, Bool, true, false, nat_eq, List, [], ◌∷◌, ◌++◌, length, map, get_or, slice_index, Option, Some, None, IfSome, IsSome, is_some, refl, arith, length-append}
use Rattle.std.specs.List.{position, position_or_len}
use Rattle.std.proofs.lemmas.Grind.{common_steps}
use Rattle.std.proofs.lemmas.List.Sums.{fails_before_first}
use Rattle.std.proofs.lemmas.List.Quantifiers.{all_pairs_push, position-Some}
use Rattle.event_record.specs.Fields.{record_id}
use Rattle.event_record.specs.Log.{IsLog, HoldsId, place_in}

-- what has no position passes at no place
fails_everywhere : {X : Type 0} (p : X → Bool) (xs : List X) (k : ℕ) (d : X) → is_some (position p xs) ≡ false → k < length xs → p (get_or xs k d) ≡ false
fails_everywhere p xs k d none below =
    let end : length xs ≤ position_or_len p xs = grind (arith, common_steps) in
    fails_before_first p xs k d (omega arith)

-- an ID has a place exactly where it is held
pub held_where : (log : List (List ℕ)) (id : ℕ) → IsSome (place_in log id) ↔ HoldsId log id
held_where log id = (placed (place_in log id) refl, λ held. found held (is_some (place_in log id)) refl)
  where
    placed : (place : Option ℕ) → place_in log id ≡ place → IsSome place → HoldsId log id
    placed (Some k) is some =
        let first = position-Some (λ event. nat_eq (record_id event) id) log k [] is in (
          k,
          grind (arith, common_steps),
          grind (arith, common_steps),
        )
    placed None is some = absurd (cc some)

    found : HoldsId log id → (b : Bool) → is_some (place_in log id) ≡ b → IsSome (place_in log id)
    found held true is = is
    found held false is =
        let below : held.0 < length log = grind (arith, common_steps) in
        let other = fails_everywhere (λ event. nat_eq (record_id event) id) log held.0 [] is below in
        absurd (grind (arith, common_steps))

-- and it is that of the record at its place
pub held_at : (log : List (List ℕ)) (id : ℕ) (place : Option ℕ) → place_in log id ≡ place → IfSome place (λ k. (k < length log) × (slice_index (map record_id log) k ≡ id))
held_at log id (Some k) is =
    let first = position-Some (λ event. nat_eq (record_id event) id) log k [] is in (
      grind (arith, common_steps),
      grind (arith, common_steps),
    )
held_at log id None is = tt

pub grown : (log : List (List ℕ)) (event : List ℕ) → IsLog log → is_some (place_in log (record_id event)) ≡ false → length log ≢ 1024 → IsLog (log ++ event ∷ [])
grown log event lawful none room = record {
  within = omega (arith, lawful.within, length-append log (event ∷ []));
  distinct = all_pairs_push (λ older newer. record_id older ≢ record_id newer) log event lawful.distinct
      (λ k d below. let other = fails_everywhere (λ held. nat_eq (record_id held) (record_id event)) log k d none below in grind (arith, common_steps));
}
