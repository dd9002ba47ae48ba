-- What fresh arrays hold.
use Rattle.std.proofs.Common.{◌≡◌, ℕ, ◌-◌, ◌<◌, ◌≤◌, Bool, true, false, cond, eqb, [], replicate, refl, sym, ◌∙◌, arith, inl, inr, eqb-true}
use Rattle.std.specs.Prelude.{codes, ◌&&◌, ◌||◌}
use Rattle.std.proofs.lemmas.Bool.{leb-true, and_parts, or_cases, true≢false}
use Rattle.std.proofs.lemmas.List.{get_or-replicate}
use Rattle.std.proofs.Math.Path.{fun_ext}
use Rattle.lan_dest.specs.Parameters.{Place, is_channel, has_selector, is_selector, is_place, filled, initial}
use Rattle.lan_dest.specs.Arrays.{index_of, tables_of}

channel_in : (channel : ℕ) → is_channel channel ≡ true → (1 ≤ channel) × (channel ≤ 2)
channel_in channel h = elim (or_cases (eqb channel 1) (eqb channel 2) h) [
  | inl one ↦ (omega (arith, eqb-true channel 1 one), omega (arith, eqb-true channel 1 one))
  | inr two ↦ (omega (arith, eqb-true channel 2 two), omega (arith, eqb-true channel 2 two))
]

module _ (place : Place) (holds : is_place place ≡ true) where
  parts : (is_channel place.channel ≡ true) × (((eqb place.parameter 16 && eqb place.selector 0) || (has_selector place.parameter && is_selector place.selector)) ≡ true)
  parts = and_parts (is_channel place.channel) _ holds

  place_channel : (1 ≤ place.channel) × (place.channel ≤ 2)
  place_channel = channel_in place.channel parts.0

  place_selector : eqb place.parameter 16 ≡ false → place.selector ≤ 4
  place_selector other = elim (or_cases (eqb place.parameter 16 && eqb place.selector 0) (has_selector place.parameter && is_selector place.selector) parts.1) [
    | inl single ↦ absurd (true≢false (sym (and_parts (eqb place.parameter 16) (eqb place.selector 0) single).0 ∙ other))
    | inr selected ↦ leb-true place.selector 4 (and_parts (has_selector place.parameter) (is_selector place.selector) selected).1
  ]

  community_below : place.channel - 1 < 2
  community_below = omega (arith, place_channel)

  index_below : eqb place.parameter 16 ≡ false → index_of place.channel place.selector < 10
  index_below other = omega (arith, place_channel, place_selector other)

-- choices are the same where each of their ends is, as far as it is reached
chosen : {X : Type 0} (b d e : Bool) (x x' y y' z z' n : X) → (b ≡ true → d ≡ true → x ≡ x') → (b ≡ true → d ≡ false → y ≡ y') → (b ≡ true → d ≡ false → z ≡ z')
    → cond b (cond d x (cond e y z)) n ≡ cond b (cond d x' (cond e y' z')) n
chosen false d e x x' y y' z z' n p q r = refl
chosen true true e x x' y y' z z' n p q r = p refl refl
chosen true false true x x' y y' z z' n p q r = q refl refl
chosen true false false x x' y y' z z' n p q r = r refl refl

-- the community `public`, and destinations of zeros
pub fresh_arrays : tables_of (replicate 2 (filled 18 (codes "public"))) (replicate 10 (replicate 3 0)) (replicate 10 (replicate 12 0)) ≡ initial
fresh_arrays = fun_ext (λ place. chosen (is_place place) (eqb place.parameter 16) (eqb place.parameter 18) _ _ _ _ _ _ []
    (λ holds _. get_or-replicate 2 (place.channel - 1) (filled 18 (codes "public")) [] (community_below place holds))
    (λ holds other. get_or-replicate 10 (index_of place.channel place.selector) (replicate 3 0) [] (index_below place holds other))
    (λ holds other. get_or-replicate 10 (index_of place.channel place.selector) (replicate 12 0) [] (index_below place holds other)))
