-- A trap has but one shortest spelling.
use Rattle.std.proofs.Common.{◌≡◌, ℕ, ◌+◌, ◌*◌, ◌^◌, ◌<◌, ◌≤◌, List, [], ◌∷◌, ◌++◌, length, refl, sym, ap, subst, ◌∙◌, inl, inr, arith}
use Rattle.std.proofs.Math.Nat.{mul-le-mul_right}
use Rattle.std.proofs.lemmas.Bool.{cases_order}
use Rattle.snmp_trap.specs.Grammar.{IsLength, number_of, Seen}
use Rattle.snmp_trap.specs.Shortest.{AreOctets, IsShortestNumber, IsShortElement, IsShortNumberElement, IsShortList, IsShortTrapPart, Shortest}
use Rattle.snmp_trap.proofs.Shorter.{octets_fit}

-- ---- parts of octets are octets

left_octets : (xs ys : List ℕ) → AreOctets (xs ++ ys) → AreOctets xs
left_octets [] ys are = tt
left_octets (x ∷ xs) ys are = (are.0, left_octets xs ys are.1)

right_octets : (xs ys : List ℕ) → AreOctets (xs ++ ys) → AreOctets ys
right_octets [] ys are = are
right_octets (x ∷ xs) ys are = right_octets xs ys are.1

-- ---- the same number in as many octets

same_heads : (x y p a b : ℕ) → a < p → b < p → x * p + a ≡ y * p + b → x ≡ y
same_heads x y p a b fits fits' e =
    elim (cases_order x y) [
      | inl same ↦ same
      | inr other ↦
          elim other [
            | inl lt ↦ let far : (x + 1) * p ≤ y * p = mul-le-mul_right p (omega arith) in absurd (omega (arith, far))
            | inr gt ↦ let far : (y + 1) * p ≤ x * p = mul-le-mul_right p (omega arith) in absurd (omega (arith, far))
          ]
    ]

same_octets : (xs ys : List ℕ) → AreOctets xs → AreOctets ys → length xs ≡ length ys → number_of xs ≡ number_of ys → xs ≡ ys
same_octets [] [] are are' size e = refl
same_octets [] (y ∷ ys) are are' size e = absurd (omega arith)
same_octets (x ∷ xs) [] are are' size e = absurd (omega arith)
same_octets (x ∷ xs) (y ∷ ys) are are' size e =
    let sizes : length xs ≡ length ys = omega arith in
    let powers : 256 ^ length ys ≡ 256 ^ length xs = ap (λ n. 256 ^ n) (sym sizes) in
    let product : y * 256 ^ length ys ≡ y * 256 ^ length xs = ap (λ n. y * n) powers in
    let below : number_of xs < 256 ^ length xs = octets_fit xs are.1 in
    let below' : number_of ys < 256 ^ length xs = omega (arith, octets_fit ys are'.1, powers) in
    let head : x ≡ y = same_heads x y (256 ^ length xs) (number_of xs) (number_of ys) below below' (omega (arith, e, product)) in
    let first : x * 256 ^ length xs ≡ y * 256 ^ length xs = ap (λ n. n * 256 ^ length xs) head in
    let rest : xs ≡ ys = same_octets xs ys are.1 are'.1 sizes (omega (arith, e, product, first)) in
    ap (λ n. n ∷ xs) head ∙ ap (λ (w : List ℕ). y ∷ w) rest

same_number : (c d : List ℕ) (n : ℕ) → AreOctets c → AreOctets d → IsShortestNumber c n → IsShortestNumber d n → c ≡ d
same_number c d n are are' p q =
    same_octets c d are are' (omega (arith, p.least d are' q.value q.first_bit, q.least c are p.value p.first_bit)) (p.value ∙ sym q.value)

same_spelled : (s t : List ℕ) (n : ℕ) → AreOctets s → AreOctets t → length s ≡ length t → IsLength s n → IsLength t n → s ≡ t
same_spelled [] t n are are' size p q = absurd p
same_spelled (f ∷ more) [] n are are' size p q = absurd q
same_spelled (f ∷ more) (g ∷ digits) n are are' size (inl p) (inl q) = ap (λ k. k ∷ more) (sym p.2 ∙ q.2) ∙ ap (λ (w : List ℕ). g ∷ w) (p.1 ∙ sym q.1)
same_spelled (f ∷ more) (g ∷ digits) n are are' size (inl p) (inr q) = absurd (omega (arith, ap length p.1, q.0))
same_spelled (f ∷ more) (g ∷ digits) n are are' size (inr p) (inl q) = absurd (omega (arith, ap length q.1, p.0))
same_spelled (f ∷ more) (g ∷ digits) n are are' size (inr p) (inr q) =
    let head : f ≡ g = omega (arith, p.2, q.2) in
    let rest : more ≡ digits = same_octets more digits are.1 are'.1 (omega arith) (sym p.3 ∙ q.3) in
    ap (λ k. k ∷ more) head ∙ ap (λ (w : List ℕ). g ∷ w) rest

-- ---- the same element

held_octets : (octets : List ℕ) (tag : ℕ) (contents : List ℕ) → IsShortElement octets tag contents → AreOctets octets → AreOctets contents
held_octets octets tag contents is are = right_octets is.spelled contents (subst AreOctets is.parts are).1

same_element : (a b : List ℕ) (tag : ℕ) (contents : List ℕ) → AreOctets a → AreOctets b → IsShortElement a tag contents → IsShortElement b tag contents → a ≡ b
same_element a b tag contents are are' p q =
    let one = left_octets p.spelled contents (subst AreOctets p.parts are).1 in
    let other = left_octets q.spelled contents (subst AreOctets q.parts are').1 in
    let spelled : p.spelled ≡ q.spelled = same_spelled p.spelled q.spelled (length contents) one other (omega (arith, p.is_length.least q.spelled other q.is_length.is_length, q.is_length.least p.spelled one p.is_length.is_length)) p.is_length.is_length q.is_length.is_length in
    p.parts ∙ ap (λ (w : List ℕ). tag ∷ w ++ contents) spelled ∙ sym q.parts

same_holder : (a b : List ℕ) (tag : ℕ) (c d : List ℕ) → AreOctets a → AreOctets b → c ≡ d → IsShortElement a tag c → IsShortElement b tag d → a ≡ b
same_holder a b tag c d are are' e p q = same_element a b tag d are are' (subst (IsShortElement a tag) e p) q

same_number_element : (a b : List ℕ) (tag n : ℕ) → AreOctets a → AreOctets b → IsShortNumberElement a tag n → IsShortNumberElement b tag n → a ≡ b
same_number_element a b tag n are are' p q =
    same_holder a b tag p.contents q.contents are are' (same_number p.contents q.contents n (held_octets a tag p.contents p.element are) (held_octets b tag q.contents q.element are') p.number q.number) p.element q.element

same_list : (a b body : List ℕ) → AreOctets a → AreOctets b → IsShortList a body → IsShortList b body → a ≡ b
same_list a b body are are' p q =
    let h = held_octets a 48 p.binding p.is_list are in
    let h' = held_octets b 48 q.binding q.is_list are' in
    let i = held_octets p.binding 48 (p.name ++ p.value) p.is_binding h in
    let i' = held_octets q.binding 48 (q.name ++ q.value) q.is_binding h' in
    let name = same_element p.name q.name 6 _ (left_octets p.name p.value i) (left_octets q.name q.value i') p.is_name q.is_name in
    let value = same_element p.value q.value 4 body (right_octets p.name p.value i) (right_octets q.name q.value i') p.is_value q.is_value in
    let contents : p.name ++ p.value ≡ q.name ++ q.value = ap (λ (w : List ℕ). w ++ p.value) name ∙ ap (λ (w : List ℕ). q.name ++ w) value in
    same_holder a b 48 p.binding q.binding are are' (same_holder p.binding q.binding 48 (p.name ++ p.value) (q.name ++ q.value) h h' contents p.is_binding q.is_binding) p.is_list q.is_list

joins : (a b c d : List ℕ) → a ≡ b → c ≡ d → a ++ c ≡ b ++ d
joins a b c d e f = ap (λ (w : List ℕ). w ++ c) e ∙ ap (λ (w : List ℕ). b ++ w) f

same_trap_part : (a b : List ℕ) (v : Seen) → AreOctets a → AreOctets b → IsShortTrapPart a v → IsShortTrapPart b v → a ≡ b
same_trap_part a b v are are' p q =
    let a0 = subst AreOctets p.parts are in
    let b0 = subst AreOctets q.parts are' in
    let a1 = right_octets p.enterprise _ a0 in
    let b1 = right_octets q.enterprise _ b0 in
    let a2 = right_octets p.agent _ a1 in
    let b2 = right_octets q.agent _ b1 in
    let a3 = right_octets p.generic _ a2 in
    let b3 = right_octets q.generic _ b2 in
    let a4 = right_octets p.specific _ a3 in
    let b4 = right_octets q.specific _ b3 in
    let list = same_list p.list q.list v.body (right_octets p.ticks p.list a4) (right_octets q.ticks q.list b4) p.is_list q.is_list in
    let ticks = same_number_element p.ticks q.ticks 67 v.ticks (left_octets p.ticks p.list a4) (left_octets q.ticks q.list b4) p.is_ticks q.is_ticks in
    let specific = same_number_element p.specific q.specific 2 v.specific (left_octets p.specific _ a3) (left_octets q.specific _ b3) p.is_specific q.is_specific in
    let generic = same_number_element p.generic q.generic 2 6 (left_octets p.generic _ a2) (left_octets q.generic _ b2) p.is_generic q.is_generic in
    let agent = same_element p.agent q.agent 64 v.agent (left_octets p.agent _ a1) (left_octets q.agent _ b1) p.is_agent q.is_agent in
    let enterprise = same_element p.enterprise q.enterprise 6 _ (left_octets p.enterprise _ a0) (left_octets q.enterprise _ b0) p.is_enterprise q.is_enterprise in
    p.parts ∙ joins _ _ _ _ enterprise (joins _ _ _ _ agent (joins _ _ _ _ generic (joins _ _ _ _ specific (joins _ _ _ _ ticks list)))) ∙ sym q.parts

pub one_shortest : (v : Seen) (a b : List ℕ) → AreOctets a → AreOctets b → Shortest v a → Shortest v b → a ≡ b
one_shortest v a b are are' p q =
    let a0 = held_octets a 48 (p.version ++ (p.community ++ p.trap)) p.is_message are in
    let b0 = held_octets b 48 (q.version ++ (q.community ++ q.trap)) q.is_message are' in
    let a1 = right_octets p.version (p.community ++ p.trap) a0 in
    let b1 = right_octets q.version (q.community ++ q.trap) b0 in
    let a2 = right_octets p.community p.trap a1 in
    let b2 = right_octets q.community q.trap b1 in
    let contents = same_trap_part p.contents q.contents v (held_octets p.trap 164 p.contents p.is_trap a2) (held_octets q.trap 164 q.contents q.is_trap b2) p.trap_part q.trap_part in
    let trap = same_holder p.trap q.trap 164 p.contents q.contents a2 b2 contents p.is_trap q.is_trap in
    let community = same_element p.community q.community 4 v.community (left_octets p.community p.trap a1) (left_octets q.community q.trap b1) p.is_community q.is_community in
    let version = same_number_element p.version q.version 2 0 (left_octets p.version _ a0) (left_octets q.version _ b0) p.is_version q.is_version in
    same_holder a b 48 _ _ are are' (joins _ _ _ _ version (joins _ _ _ _ community trap)) p.is_message q.is_message
