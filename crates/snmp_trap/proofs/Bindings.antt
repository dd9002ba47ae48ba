-- The list of bindings is read exactly.
use Rattle.std.proofs.Common.{◌≡◌, ℕ, zero, suc, ◌%◌, ◌≤◌, Bool, true, false, not, ◌&&◌, ◌||◌, eqb, List, [], ◌∷◌, ◌++◌, length, Option, Some, None, refl, sym, ap, subst, ◌∙◌, inl, inr, append-nil, arith}
use Rattle.std.specs.Prelude.{bytes_eq, is_some, Decides}
use Rattle.std.proofs.lemmas.Bool.{eqb-true, eqb-false, eq-eqb, ne_eqb, not-true}
use Rattle.std.proofs.lemmas.Slice.Eq.{bytes_eq-Decides}
use Rattle.snmp_trap.specs.declared.refusal.Refusal.{Refusal}
use Rattle.snmp_trap.specs.declared.refusal.Why.TheVariants.{NoBinding}
use Rattle.snmp_trap.specs.Grammar.{IsElement, IsBody, IsValueTag, Binding, IsBinding, AreBindings, IsBodyOf, body_name}
use Rattle.snmp_trap.specs.Refusals.{refusal, Front, inside, behind, over, one, any_value, counts, value_tags, RefusesThen, RefusesMore, RefusesNothing, RefusesValue, RefusesBinding, RefusesBindings, RefusesList}
use Rattle.snmp_trap.specs.Reading.{ended, contents_at, body_at, value_at, named_at, binding_at, later, bindings_at, list_at}
use Rattle.snmp_trap.proofs.Results.{either}
use Rattle.snmp_trap.proofs.Exact.{Exact, exact_as, FieldIs, field_exact}
use Rattle.snmp_trap.proofs.Elements.{rest_is_shorter}
use Rattle.snmp_trap.proofs.Leaves.{accepting, refusing, ended_exact, contents_exact, body_exact}
use Rattle.snmp_trap.proofs.Fronts.{element_of, is_element, is_one, splits, front_of, is_wanted, same_front, no_front, some_octets}

-- ---- one binding

abbrev ValueIs : Bool → List ℕ → Option (List ℕ) → Type 0
ValueIs true contents value = (Some contents ≡ value) × IsBody contents
ValueIs false contents value = None ≡ value

value_exact : (counting : Bool) (tag_place at : ℕ) (contents : List ℕ) → Exact (value_at counting tag_place at contents) (ValueIs counting contents) (RefusesValue counting tag_place at contents)
value_exact false tag_place at contents = accepting None _ _ refl (λ a h. h) (λ r h. h)
value_exact true tag_place at contents =
    let body = body_exact tag_place at contents in
    elim (either (body_at tag_place at contents)) [
      | inl b ↦
          let h = body.ok b.0 b.1 in
          let is : IsBody contents = subst IsBody (sym h.0) h.1 in
          rw b.1 (accepting (Some b.0) _ _ (ap (λ (w : List ℕ). Some w) h.0, is) (λ a g. ap (λ (w : List ℕ). Some w) (sym h.0) ∙ g.0) (λ r row. row.0 is))
      | inr s ↦
          let row = body.err s.0 s.1 in
          rw s.1 (refusing s.0 _ _ row (λ r h. row.1 ∙ sym h.1) (λ a h. row.0 h.1))
    ]

abbrev EndsWith : List ℕ → Option (List ℕ) → List ℕ → Option (List ℕ) → Type 0
EndsWith contents value rest answer = (rest ≡ []) × (value ≡ answer)

abbrev NamedIs : Bool → List ℕ → Option (List ℕ) → Type 0
NamedIs counting octets value = FieldIs (value_tags counting) (ValueIs counting) EndsWith octets value

named_exact : (counting : Bool) (at : ℕ) (octets : List ℕ) → Exact (named_at counting at octets) (NamedIs counting octets) (RefusesThen over (value_tags counting) (RefusesValue counting) (λ _. RefusesMore) at octets)
unfolding named_at
named_exact counting at octets =
    field_exact over (value_tags counting) (value_at counting) (λ _ body. ended body) (ValueIs counting) EndsWith (RefusesValue counting) (λ _. RefusesMore) at octets
    (λ front w. value_exact counting at (inside at front) front.contents)
    (λ front w x accepted. ended_exact x (behind at front) front.rest)

abbrev Is : List ℕ → List ℕ → Type 0
Is contents value = contents ≡ value

abbrev NameThen : Bool → List ℕ → List ℕ → List ℕ → Option (List ℕ) → Type 0
NameThen found name value rest answer = NamedIs (counts found name) rest answer

abbrev BindingIs : Bool → List ℕ → Option (List ℕ) → Type 0
BindingIs found contents value = FieldIs (one 6) Is (NameThen found) contents value

binding_exact : (found : Bool) (tag_place at : ℕ) (contents : List ℕ) → Exact (binding_at found tag_place at contents) (BindingIs found contents) (RefusesBinding found tag_place at contents)
unfolding binding_at
binding_exact found tag_place at contents =
    field_exact over (one 6) contents_at (λ name _. named_at (counts found name)) Is (NameThen found) RefusesNothing (λ name. RefusesThen over (value_tags (counts found name)) (RefusesValue (counts found name)) (λ _. RefusesMore)) at contents
    (λ front w. contents_exact at (inside at front) front.contents)
    (λ front w x accepted. named_exact (counts found front.contents) (behind at front) front.rest)

-- ---- which one counts

abbrev Chooses : Option (List ℕ) → List Binding → List ℕ → Type 0
Chooses (Some body) bs answer = body ≡ answer
Chooses None bs answer = IsBodyOf bs answer

first_in : (e : Bool) (b : Binding) (bs : List Binding) (value : Option (List ℕ)) (answer : List ℕ) → Decides e (b.name ≡ body_name) → value_tags e b.tag ≡ true → ValueIs e b.value value → Chooses (later value None) bs answer → IsBodyOf (b ∷ bs) answer
first_in true b bs value answer named tag is then =
    let same : b.value ≡ answer = subst (λ v. Chooses (later v None) bs answer) (sym is.0) then in
    inl (named.0 refl, eqb-true _ _ tag, same, subst IsBody same is.1)
first_in false b bs value answer named tag is then = inr ((λ e. apart (named.1 e)), subst (λ v. Chooses (later v None) bs answer) (sym is) then)
  where
    apart : false ≡ true → ⊥
    apart e = cc

chooses_in : (body : Option (List ℕ)) (b : Binding) (bs : List Binding) (value : Option (List ℕ)) (answer : List ℕ) → value_tags (counts (is_some body) b.name) b.tag ≡ true → ValueIs (counts (is_some body) b.name) b.value value → Chooses (later value body) bs answer → Chooses body (b ∷ bs) answer
chooses_in (Some body) b bs value answer tag is then = subst (λ v. Chooses (later v (Some body)) bs answer) (sym is) then
chooses_in None b bs value answer tag is then = first_in (bytes_eq b.name body_name) b bs value answer (bytes_eq-Decides b.name body_name) tag is then

is_any : (tag : ℕ) → IsValueTag tag → any_value tag ≡ true
is_any tag is = rw (ne_eqb _ _ is) refl

first_out : (e : Bool) (b : Binding) (bs : List Binding) (answer : List ℕ) → Decides e (b.name ≡ body_name) → IsValueTag b.tag → IsBodyOf (b ∷ bs) answer → (value : Option (List ℕ)) × (value_tags e b.tag ≡ true) × ValueIs e b.value value × Chooses (later value None) bs answer
first_out true b bs answer named allowed (inl here) = (Some b.value, eq-eqb _ _ here.1, (refl, subst IsBody (sym here.2) here.3), here.2)
first_out true b bs answer named allowed (inr later) = absurd (later.0 (named.0 refl))
first_out false b bs answer named allowed (inl here) = absurd (apart (named.1 here.0))
  where
    apart : false ≡ true → ⊥
    apart e = cc
first_out false b bs answer named allowed (inr later) = (None, is_any b.tag allowed, refl, later.1)

chooses_out : (body : Option (List ℕ)) (b : Binding) (bs : List Binding) (answer : List ℕ) → IsValueTag b.tag → Chooses body (b ∷ bs) answer → (value : Option (List ℕ)) × (value_tags (counts (is_some body) b.name) b.tag ≡ true) × ValueIs (counts (is_some body) b.name) b.value value × Chooses (later value body) bs answer
chooses_out (Some body) b bs answer allowed is = (None, is_any b.tag allowed, refl, is)
chooses_out None b bs answer allowed is = first_out (bytes_eq b.name body_name) b bs answer (bytes_eq-Decides b.name body_name) allowed is

allowed_by : (counting : Bool) (tag : ℕ) → value_tags counting tag ≡ true → IsValueTag tag
allowed_by true tag e = let is : tag ≡ 4 = eqb-true _ _ e in omega (arith, is)
allowed_by false tag e = eqb-false _ _ (not-true (eqb (tag % 32) 31) e)

-- whether a binding before had the name
flag_of : (body value : Option (List ℕ)) (contents : List ℕ) (e : Bool) → ValueIs (not (is_some body) && e) contents value → (is_some body || e) ≡ is_some (later value body)
flag_of (Some body) value contents e is = subst (λ v. true ≡ is_some (later v (Some body))) is refl
flag_of None value contents true is = subst (λ v. true ≡ is_some (later v None)) is.0 refl
flag_of None value contents false is = subst (λ v. false ≡ is_some (later v None)) is refl

flag : (body value : Option (List ℕ)) (contents : List ℕ) → BindingIs (is_some body) contents value → (name : Front contents) → (is_some body || bytes_eq name.contents body_name) ≡ is_some (later value body)
flag body value contents is name =
    let behind_name = is.then in
    ap (λ (w : List ℕ). is_some body || bytes_eq w body_name) (same_front contents name is.front).contents ∙ flag_of body behind_name.value behind_name.front.contents (bytes_eq is.front.contents body_name) behind_name.accepted ∙ ap (λ v. is_some (later v body)) behind_name.then.1

-- ---- the list

record ListIs (body : Option (List ℕ)) (octets answer : List ℕ) : Type 0 where
  pub bindings : List Binding
  pub are : AreBindings octets bindings
  pub chosen : Chooses body bindings answer

abbrev ListThen : Option (List ℕ) → List ℕ → Option (List ℕ) → List ℕ → List ℕ → Type 0
ListThen body binding value rest answer = ListIs (later value body) rest answer

abbrev ListStep : Option (List ℕ) → List ℕ → List ℕ → Type 0
ListStep body octets answer = FieldIs (one 48) (BindingIs (is_some body)) (ListThen body) octets answer

abbrev the_binding : (found : Bool) (contents : List ℕ) (value : Option (List ℕ)) → BindingIs found contents value → Binding
the_binding found contents value is = record { name = is.front.contents; tag = is.then.front.tag; value = is.then.front.contents }

is_binding : (found : Bool) (first contents : List ℕ) (value : Option (List ℕ)) (is : BindingIs found contents value) → IsElement first 48 contents → IsBinding first (the_binding found contents value is)
is_binding found first contents value is whole =
    let name = is.front in
    let held = is.then.front in
    let last : name.rest ≡ element_of held = splits held ∙ ap (λ (w : List ℕ). element_of held ++ w) is.then.then.0 ∙ append-nil (element_of held) in
    record {
      name = element_of name;
      value = element_of held;
      whole = subst (IsElement first 48) (splits name ∙ ap (λ (w : List ℕ). element_of name ++ w) last) whole;
      is_name = is_one 6 name name.contents is.is_wanted refl;
      is_value = is_element held held.contents refl;
      allowed = allowed_by (counts found name.contents) held.tag is.then.is_wanted;
    }

step_in : (body : Option (List ℕ)) (octets answer : List ℕ) → ListStep body octets answer → ListIs body octets answer
step_in body octets answer step =
    let front = step.front in
    let is = step.accepted in
    let b = the_binding (is_some body) front.contents step.value is in
    record {
      bindings = b ∷ step.then.bindings;
      are = (element_of front, front.rest, splits front, is_binding (is_some body) (element_of front) front.contents step.value is (is_one 48 front front.contents step.is_wanted refl), step.then.are);
      chosen = chooses_in body b step.then.bindings step.value answer is.then.is_wanted (subst (ValueIs (counts (is_some body) b.name) b.value) is.then.then.1 is.then.accepted) step.then.chosen;
    }

binding_is : (found : Bool) (first contents : List ℕ) (b : Binding) (is : IsBinding first b) (value : Option (List ℕ)) → value_tags (counts found b.name) b.tag ≡ true → ValueIs (counts found b.name) b.value value → BindingIs found (is.name ++ is.value) value
binding_is found first contents b is value tag held = record {
  front = front_of is.name 6 b.name is.value (is.name ++ is.value) is.is_name refl;
  is_wanted = is_wanted 6;
  value = b.name;
  accepted = refl;
  then = record {
    front = front_of is.value b.tag b.value [] is.value is.is_value (sym (append-nil is.value));
    is_wanted = tag;
    value = value;
    accepted = held;
    then = (refl, refl);
  };
}

step_out : (body : Option (List ℕ)) (octet : ℕ) (more answer : List ℕ) → ListIs body (octet ∷ more) answer → ListStep body (octet ∷ more) answer
step_out body octet more answer is = from is.bindings is.are is.chosen
  where
    from : (bs : List Binding) → AreBindings (octet ∷ more) bs → Chooses body bs answer → ListStep body (octet ∷ more) answer
    from [] are chosen = absurd (nothing are)
      where
        nothing : octet ∷ more ≡ [] → ⊥
        nothing e = cc
    from (b ∷ bs) are chosen =
        let value = chooses_out body b bs answer are.3.allowed chosen in
        record {
          front = front_of are.0 48 (are.3.name ++ are.3.value) are.1 (octet ∷ more) are.3.whole are.2;
          is_wanted = is_wanted 48;
          value = value.0;
          accepted = binding_is (is_some body) are.0 (are.3.name ++ are.3.value) b are.3 value.0 value.1 value.2;
          then = record { bindings = bs; are = are.4; chosen = value.3 };
        }

nothing_bound : (bs : List Binding) (answer : List ℕ) → AreBindings [] bs → Chooses None bs answer → ⊥
nothing_bound [] answer are chosen = chosen
nothing_bound (b ∷ bs) answer are chosen = some_octets are.0 48 (are.3.name ++ are.3.value) are.1 are.3.whole are.2

-- what is refused of the rest of the list
abbrev ListRefuses : ℕ → Bool → ℕ → List ℕ → Refusal → Type 0
ListRefuses list found at octets r = (n : ℕ) × RefusesBindings list n found at octets r

abbrev StepRefuses : ℕ → Bool → List ℕ → ℕ → List ℕ → Refusal → Type 0
StepRefuses list found binding at octets r = (n : ℕ) × (name : Front binding) × RefusesBindings list n (found || bytes_eq name.contents body_name) at octets r

refuses_in : (list : ℕ) (found : Bool) (at octet : ℕ) (more : List ℕ) (r : Refusal) → RefusesThen over (one 48) (RefusesBinding found) (StepRefuses list found) at (octet ∷ more) r → ListRefuses list found at (octet ∷ more) r
refuses_in list found at octet more r (inl here) = (0, here)
refuses_in list found at octet more r (inr later) = (suc later.3.0, (later.0, later.1, later.2, (later.3.1, later.3.2)))

refuses_out : (list : ℕ) (found : Bool) (at octet : ℕ) (more : List ℕ) (r : Refusal) → ListRefuses list found at (octet ∷ more) r → RefusesThen over (one 48) (RefusesBinding found) (StepRefuses list found) at (octet ∷ more) r
refuses_out list found at octet more r (zero, here) = inl here
refuses_out list found at octet more r (suc n, later) = inr (later.0, later.1, later.2, (n, later.3.0, later.3.1))

ended_refuses : (list at : ℕ) (r : Refusal) → ListRefuses list false at [] r → refusal list NoBinding ≡ r
ended_refuses list at r (zero, is) = sym is.1
ended_refuses list at r (suc n, is) = absurd (no_front is.0)

found_refuses : (list at : ℕ) (r : Refusal) → ¬ (ListRefuses list true at [] r)
found_refuses list at r (zero, is) = apart is.0
  where
    apart : true ≡ false → ⊥
    apart e = cc
found_refuses list at r (suc n, is) = no_front is.0

bindings_exact : (fuel list : ℕ) (body : Option (List ℕ)) (at : ℕ) (octets : List ℕ) → length octets ≤ fuel → Exact (bindings_at fuel list body at octets) (ListIs body octets) (ListRefuses list (is_some body) at octets)
unfolding bindings_at
bindings_exact fuel list None at [] le =
    refusing (refusal list NoBinding) _ _ (0, (refl, refl)) (ended_refuses list at) (λ a is. nothing_bound is.bindings a is.are is.chosen)
bindings_exact fuel list (Some body) at [] le =
    accepting body _ _ (record { bindings = []; are = refl; chosen = refl }) (λ a is. is.chosen) (found_refuses list at)
bindings_exact zero list body at (octet ∷ more) le = absurd (omega arith)
bindings_exact (suc fuel) list body at (octet ∷ more) le =
    exact_as _ (ListStep body (octet ∷ more)) _ (RefusesThen over (one 48) (RefusesBinding (is_some body)) (StepRefuses list (is_some body)) at (octet ∷ more)) _
    (field_exact over (one 48) (binding_at (is_some body)) (λ _ value after rest. bindings_at fuel list (later value body) after rest) (BindingIs (is_some body)) (ListThen body) (RefusesBinding (is_some body)) (StepRefuses list (is_some body)) at (octet ∷ more)
    (λ front w. binding_exact (is_some body) at (inside at front) front.contents)
    (λ front w value is.
    exact_as _ _ _ _ _ (bindings_exact fuel list (later value body) (behind at front) front.rest (omega (arith, rest_is_shorter (octet ∷ more) front)))
    (λ a h. h) (λ a h. h)
    (λ r h. (h.0, is.front, subst (λ f. RefusesBindings list h.0 f (behind at front) front.rest r) (sym (flag body value front.contents is is.front)) h.1))
    (λ r h. (h.0, subst (λ f. RefusesBindings list h.0 f (behind at front) front.rest r) (flag body value front.contents is h.1) h.2))))
    (step_in body (octet ∷ more)) (step_out body octet more) (refuses_in list (is_some body) at octet more) (refuses_out list (is_some body) at octet more)

-- what the list of a trap holds
pub record HoldsBody (contents body : List ℕ) : Type 0 where
  pub bindings : List Binding
  pub are : AreBindings contents bindings
  pub is_body : IsBodyOf bindings body

pub list_exact : (tag_place at : ℕ) (contents : List ℕ) → Exact (list_at tag_place at contents) (HoldsBody contents) (RefusesList tag_place at contents)
list_exact tag_place at contents =
    exact_as _ _ _ _ _ (bindings_exact (length contents) tag_place None at contents (omega arith))
    (λ a h. record { bindings = h.bindings; are = h.are; is_body = h.chosen })
    (λ a h. record { bindings = h.bindings; are = h.are; chosen = h.is_body })
    (λ r h. h) (λ r h. h)
