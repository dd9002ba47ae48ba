-- The loop over the bindings: what is left is read as the whole list is.
use Rattle.std.proofs.Common.{Bor, Bool, ◌≡◌, ◌≢◌, ℕ, zero, suc, ◌<◌, ◌≤◌, List, [], ◌∷◌, length, Option, Some, None, Result, Ok, Err, refl, sym, ap, subst, ◌∙◌, arith}
use Rattle.std.specs.Prelude.{is_some, ok_or, option_map}
use Rattle.std.specs.Option.{option_or}
use Rattle.snmp_trap.specs.declared.refusal.Refusal.{Refusal}
use Rattle.snmp_trap.specs.declared.refusal.Why.TheVariants.{NoBinding}
use Rattle.snmp_trap.specs.Refusals.{refusal, over, one}
use Rattle.snmp_trap.specs.Reading.{Part, element_at, binding_at, bindings_at, later, Gives}
use Rattle.snmp_trap.proofs.Elements.{element_ok, rest_is_shorter}

-- the whole list is read to w
abbrev pub Left : ℕ → Option (List ℕ) → ℕ → List ℕ → Result (List ℕ) Refusal → Type 0
Left list body at octets w = (fuel : ℕ) × (length octets ≤ fuel) × (bindings_at fuel list body at octets ≡ w)

pub shorter : (past : Refusal) (at : ℕ) (octets : List ℕ) (p : Part) → element_at past (one 48) at octets ≡ Ok p → length p.rest < length octets
shorter past at octets p e =
    let f = element_ok past (one 48) at octets p e in
    subst (λ (q : Part). length q.rest < length octets) (sym f.2) (rest_is_shorter octets f.0)

pub goes_on : (list : ℕ) (body : Option (List ℕ)) (at : ℕ) (octets : List ℕ) (w : Result (List ℕ) Refusal) (p : Part) (found : Option (List ℕ)) → length octets ≢ 0 → element_at (over at octets) (one 48) at octets ≡ Ok p → binding_at (is_some body) p.at p.inside p.contents ≡ Ok found → Left list body at octets w → Left list (later found body) p.after p.rest w
unfolding bindings_at
goes_on list body at [] w p found some e b (fuel, enough, is) = absurd (some refl)
goes_on list body at (octet ∷ more) w p found some e b (zero, enough, is) = absurd (omega arith)
goes_on list body at (octet ∷ more) w p found some e b (suc fuel, enough, is) =
    (fuel, omega (arith, shorter (over at (octet ∷ more)) at (octet ∷ more) p e), rw (e, b) at is)

pub stops_at_element : (list : ℕ) (body : Option (List ℕ)) (at : ℕ) (octets : List ℕ) (w : Result (List ℕ) Refusal) (r : Refusal) → length octets ≢ 0 → element_at (over at octets) (one 48) at octets ≡ Err r → Left list body at octets w → w ≡ Err r
unfolding bindings_at
stops_at_element list body at [] w r some e (fuel, enough, is) = absurd (some refl)
stops_at_element list body at (octet ∷ more) w r some e (zero, enough, is) = absurd (omega arith)
stops_at_element list body at (octet ∷ more) w r some e (suc fuel, enough, is) = sym (rw e at is)

pub stops_at_binding : (list : ℕ) (body : Option (List ℕ)) (at : ℕ) (octets : List ℕ) (w : Result (List ℕ) Refusal) (p : Part) (r : Refusal) → length octets ≢ 0 → element_at (over at octets) (one 48) at octets ≡ Ok p → binding_at (is_some body) p.at p.inside p.contents ≡ Err r → Left list body at octets w → w ≡ Err r
unfolding bindings_at
stops_at_binding list body at [] w p r some e b (fuel, enough, is) = absurd (some refl)
stops_at_binding list body at (octet ∷ more) w p r some e b (zero, enough, is) = absurd (omega arith)
stops_at_binding list body at (octet ∷ more) w p r some e b (suc fuel, enough, is) = sym (rw (e, b) at is)

pub ends_without : (list : ℕ) (at : ℕ) (octets : List ℕ) (w : Result (List ℕ) Refusal) → length octets ≡ 0 → Left list None at octets w → w ≡ Err (refusal list NoBinding)
unfolding bindings_at
ends_without list at [] w none (fuel, enough, is) = sym is
ends_without list at (octet ∷ more) w none left = absurd (omega arith)

pub ends_with : (list : ℕ) (body : List ℕ) (at : ℕ) (octets : List ℕ) (w : Result (List ℕ) Refusal) → length octets ≡ 0 → Left list (Some body) at octets w → w ≡ Ok body
unfolding bindings_at
ends_with list body at [] w none (fuel, enough, is) = sym is
ends_with list body at (octet ∷ more) w none left = absurd (omega arith)

-- ---- the same, of what the code keeps

abbrev now : Option (Bor (List ℕ)) → Option (List ℕ)
now body = option_map (λ b. b.now) body

is_some-now : (body : Option (Bor (List ℕ))) → is_some body ≡ is_some (now body)
is_some-now None = refl
is_some-now (Some b) = refl

later-now : (found body : Option (Bor (List ℕ))) → later (now found) (now body) ≡ now (option_or found body)
later-now None body = refl
later-now (Some b) body = refl

pub keeps : (list : ℕ) (body : Option (Bor (List ℕ))) (at : ℕ) (octets : List ℕ) (w : Result (List ℕ) Refusal) (p : Part) (found new : Option (Bor (List ℕ))) (tested : Bool) → length octets ≢ 0 → element_at (over at octets) (one 48) at octets ≡ Ok p → tested ≡ is_some body → binding_at tested p.at p.inside p.contents ≡ Ok (now found) → new ≡ option_or found body → Left list (now body) at octets w → Left list (now new) p.after p.rest w
keeps list body at octets w p found new tested some e is b or left =
    let known : binding_at (is_some (now body)) p.at p.inside p.contents ≡ Ok (now found) = ap (λ t. binding_at t p.at p.inside p.contents) (sym (is ∙ is_some-now body)) ∙ b in
    subst (λ (o : Option (List ℕ)). Left list o p.after p.rest w) (later-now found body ∙ ap now (sym or)) (goes_on list (now body) at octets w p (now found) some e known left)

pub stops : (list : ℕ) (body : Option (Bor (List ℕ))) (at : ℕ) (octets : List ℕ) (w : Result (List ℕ) Refusal) (p : Part) (r : Refusal) (tested : Bool) → length octets ≢ 0 → element_at (over at octets) (one 48) at octets ≡ Ok p → tested ≡ is_some body → binding_at tested p.at p.inside p.contents ≡ Err r → Left list (now body) at octets w → w ≡ Err r
stops list body at octets w p r tested some e is b left =
    stops_at_binding list (now body) at octets w p r some e (ap (λ t. binding_at t p.at p.inside p.contents) (sym (is ∙ is_some-now body)) ∙ b) left

pub ends : (list : ℕ) (body : Option (Bor (List ℕ))) (at : ℕ) (octets : List ℕ) (w : Result (List ℕ) Refusal) (result : Result (Bor (List ℕ)) Refusal) → length octets ≡ 0 → Left list (now body) at octets w → result ≡ ok_or body (refusal list NoBinding) → Gives (λ b. b.now) result w
ends list None at octets w result none left is = subst (λ r. Gives (λ b. b.now) r w) (sym is) (ends_without list at octets w none left)
ends list (Some b) at octets w result none left is = subst (λ r. Gives (λ b. b.now) r w) (sym is) (ends_with list b.now at octets w none left)
