-- The element at the front of octets, and the grammar's elements.
use Rattle.std.proofs.Common.{◌≡◌, ℕ, true, List, [], ◌∷◌, ◌++◌, refl, sym, ap, subst, ◌∙◌, append_assoc}
use Rattle.std.proofs.lemmas.Bool.{eqb-true, eq-eqb}
use Rattle.snmp_trap.specs.declared.refusal.Why.TheVariants.{Over}
use Rattle.snmp_trap.specs.Grammar.{IsElement}
use Rattle.snmp_trap.specs.Refusals.{refusal, Front, one}
use Rattle.snmp_trap.specs.Reading.{Part}
use Rattle.snmp_trap.proofs.Results.{ok_is}
use Rattle.snmp_trap.proofs.Elements.{part_of, element_again}

-- the octets of the element at the front
abbrev pub element_of : {octets : List ℕ} → Front octets → List ℕ
element_of front = front.tag ∷ front.spelled ++ front.contents

pub is_element : {octets : List ℕ} (front : Front octets) (contents : List ℕ) → front.contents ≡ contents → IsElement (element_of front) front.tag contents
is_element front contents e = subst (IsElement (element_of front) front.tag) e (record { spelled = front.spelled; is_length = front.is_length; parts = refl })

pub is_one : {octets : List ℕ} (tag : ℕ) (front : Front octets) (contents : List ℕ) → one tag front.tag ≡ true → front.contents ≡ contents → IsElement (element_of front) tag contents
is_one tag front contents is e = subst (λ t. IsElement (element_of front) t contents) (eqb-true _ _ is) (is_element front contents e)

pub splits : {octets : List ℕ} (front : Front octets) → octets ≡ element_of front ++ front.rest
splits front = front.parts ∙ ap (λ (w : List ℕ). front.tag ∷ w) (sym (append_assoc front.spelled front.contents front.rest))

-- an element that stands before the rest
abbrev pub front_of : (first : List ℕ) (tag : ℕ) (contents rest octets : List ℕ) → IsElement first tag contents → octets ≡ first ++ rest → Front octets
front_of first tag contents rest octets e is = record {
  tag = tag;
  spelled = e.spelled;
  contents = contents;
  rest = rest;
  is_length = e.is_length;
  parts = is ∙ ap (λ (w : List ℕ). w ++ rest) e.parts ∙ append_assoc (tag ∷ e.spelled) contents rest;
}

pub is_wanted : (tag : ℕ) → one tag tag ≡ true
is_wanted tag = eq-eqb tag tag refl

-- there is but one element at the front
pub record Same (octets : List ℕ) (f g : Front octets) : Type 0 where
  pub contents : f.contents ≡ g.contents
  pub rest : f.rest ≡ g.rest

pub same_front : (octets : List ℕ) (f g : Front octets) → Same octets f g
same_front octets f g =
    let e : part_of 0 f ≡ part_of 0 g = ok_is _ _ (sym (element_again (refusal 0 Over) (λ _. true) 0 octets f refl) ∙ element_again (refusal 0 Over) (λ _. true) 0 octets g refl) in
    record { contents = ap (λ (p : Part). p.contents) e; rest = ap (λ (p : Part). p.rest) e }

pub no_front : Front [] → ⊥
no_front front = let e = front.parts in cc

pub some_octets : (first : List ℕ) (tag : ℕ) (contents rest : List ℕ) → IsElement first tag contents → [] ≡ first ++ rest → ⊥
some_octets first tag contents rest e is = no_front (front_of first tag contents rest [] e is)
