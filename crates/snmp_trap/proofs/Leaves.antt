-- Each element that holds no others is read exactly.
use Rattle.std.proofs.Common.{◌≡◌, ◌≢◌, ℕ, ◌+◌, ◌^◌, ◌<◌, ◌≤◌, true, false, eqb, ltb, ◌||◌, List, [], ◌∷◌, length, Ok, Err, refl, sym, ap, subst, ◌∙◌, inl, inr, arith}
use Rattle.std.specs.Prelude.{bytes_eq}
use Rattle.std.proofs.lemmas.Bool.{cases_Bool, cases_lt, cases_eq, ltb-false, le-ltb, lt-ltb, eq-eqb, ne_eqb}
use Rattle.std.proofs.lemmas.Slice.Eq.{bytes_eq-Decides}
use Rattle.snmp_trap.specs.declared.refusal.Refusal.{Refusal}
use Rattle.snmp_trap.specs.declared.refusal.Why.{Why}
use Rattle.snmp_trap.specs.declared.refusal.Why.TheVariants.{Length, Trailing, Integer, Enterprise, Body}
use Rattle.snmp_trap.specs.Grammar.{number_of, IsNumber, IsBody, pet_enterprise}
use Rattle.snmp_trap.specs.Refusals.{refusal, RefusesMore, RefusesNothing, RefusesNumber, RefusesOther, RefusesEnterprise, RefusesAgent, RefusesBody}
use Rattle.snmp_trap.specs.Reading.{ended, contents_at, number_at, this_at, enterprise_at, agent_at, body_at}
use Rattle.snmp_trap.proofs.Results.{ok_is, err_is, ok-err, either}
use Rattle.snmp_trap.proofs.Exact.{Exact}

-- a reading that accepts this
pub accepting : {A : Type 0} (x : A) (accepts : A → Type 0) (refuses : Refusal → Type 0) → accepts x → ((a : A) → accepts a → x ≡ a) → ((r : Refusal) → ¬ (refuses r)) → Exact (Ok x) accepts refuses
accepting x accepts refuses is only none = record {
  ok = λ a e. subst accepts (ok_is x a e) is;
  again = λ a h. ap (λ b. Ok b) (only a h);
  err = λ r e. absurd (ok-err x r e);
  no = λ r h. absurd (none r h);
}

-- a reading that refuses so
pub refusing : {A : Type 0} (s : Refusal) (accepts : A → Type 0) (refuses : Refusal → Type 0) → refuses s → ((r : Refusal) → refuses r → s ≡ r) → ((a : A) → ¬ (accepts a)) → Exact (Err s) accepts refuses
refusing s accepts refuses is only none = record {
  ok = λ a e. absurd (ok-err a s (sym e));
  again = λ a h. absurd (none a h);
  err = λ r e. subst refuses (err_is s r e) is;
  no = λ r h. ap (λ q. Err q) (only r h);
}

pub ended_exact : {A : Type 0} (x : A) (at : ℕ) (octets : List ℕ) → Exact (ended x at octets) (λ b. (octets ≡ []) × (x ≡ b)) (RefusesMore at octets)
ended_exact x at [] = accepting x _ _ (refl, refl) (λ a h. h.1) (λ r h. h.0 refl)
ended_exact x at (octet ∷ more) = refusing (refusal at Trailing) _ _ ((λ e. absurd cc), refl) (λ r h. sym h.1) (λ a h. not_nil octet more h.0)
  where
    not_nil : (octet : ℕ) (more : List ℕ) → octet ∷ more ≡ [] → ⊥
    not_nil octet more e = cc

pub contents_exact : (tag_place at : ℕ) (contents : List ℕ) → Exact (contents_at tag_place at contents) (λ b. contents ≡ b) (RefusesNothing tag_place at contents)
contents_exact tag_place at contents = accepting contents _ _ refl (λ a h. h) (λ r h. h)

no_number : (contents : List ℕ) → ((eqb (length contents) 0) || ltb 5 (length contents)) ≡ true → (n : ℕ) → ¬ (IsNumber contents n)
no_number contents e n h =
    let some : eqb (length contents) 0 ≡ false = ne_eqb _ _ (omega (arith, h.some)) in
    let few : ltb 5 (length contents) ≡ false = le-ltb _ _ h.few in
    apart (sym (rw (some, few) refl) ∙ e)
  where
    apart : false ≡ true → ⊥
    apart e = cc

right_size : (contents : List ℕ) → ((eqb (length contents) 0) || ltb 5 (length contents)) ≡ false → (1 ≤ length contents) × (length contents ≤ 5)
right_size contents e =
    elim (cases_eq (length contents) 0) [
      | inl none ↦ absurd (apart (sym e ∙ ap (λ b. b || ltb 5 (length contents)) (eq-eqb _ _ none)))
      | inr some ↦ (omega arith, ltb-false _ _ (ap (λ b. b || ltb 5 (length contents)) (sym (ne_eqb _ _ some)) ∙ e))
    ]
  where
    apart : false ≡ true → ⊥
    apart e = cc

pub number_exact : (tag_place at : ℕ) (contents : List ℕ) → Exact (number_at tag_place at contents) (IsNumber contents) (RefusesNumber tag_place at contents)
unfolding number_at
number_exact tag_place at contents =
    elim (cases_Bool ((eqb (length contents) 0) || ltb 5 (length contents))) [
      | inl odd ↦ rw odd (refusing (refusal tag_place Integer) _ _ (no_number contents odd, refl) (λ r h. sym h.1) (no_number contents odd))
      | inr even ↦
          let size = right_size contents even in
          elim (cases_lt (number_of contents) (2 ^ 32)) [
            | inl lt ↦
                let is : IsNumber contents (number_of contents) = record { some = size.0; few = size.1; value = refl; fits = lt } in
                rw (even, lt-ltb _ _ lt) (accepting (number_of contents) _ _ is (λ a h. sym h.value) (λ r h. h.0 (number_of contents) is))
            | inr ge ↦
                let none : (n : ℕ) → ¬ (IsNumber contents n) = λ n h. too_great (number_of contents) n ge h.value h.fits in
                rw (even, le-ltb _ _ ge) (refusing (refusal tag_place Integer) _ _ (none, refl) (λ r h. sym h.1) none)
          ]
    ]
  where
    too_great : (m n : ℕ) → 2 ^ 32 ≤ m → n ≡ m → n < 2 ^ 32 → ⊥
    too_great m n ge e lt = omega arith

pub enterprise_exact : (tag_place at : ℕ) (contents : List ℕ) → Exact (enterprise_at tag_place at contents) (λ _. contents ≡ pet_enterprise) (RefusesEnterprise tag_place at contents)
unfolding enterprise_at
enterprise_exact tag_place at contents =
    let decides = bytes_eq-Decides contents pet_enterprise in
    elim (cases_Bool (bytes_eq contents pet_enterprise)) [
      | inl same ↦ rw same (accepting tt _ _ (decides.0 same) (λ a h. refl) (λ r h. h.0 (decides.0 same)))
      | inr other ↦
          let differs : contents ≢ pet_enterprise = λ is. apart (sym other ∙ decides.1 is) in
          rw other (refusing (refusal tag_place Enterprise) _ _ (differs, refl) (λ r h. sym h.1) (λ a h. differs h))
    ]
  where
    apart : false ≡ true → ⊥
    apart e = cc

pub agent_exact : (tag_place at : ℕ) (contents : List ℕ) → Exact (agent_at tag_place at contents) (λ agent. (contents ≡ agent) × (length agent ≡ 4)) (RefusesAgent tag_place at contents)
unfolding agent_at
agent_exact tag_place at contents =
    elim (cases_eq (length contents) 4) [
      | inl four ↦ rw (eq-eqb _ _ four) (accepting contents _ _ (refl, four) (λ a h. h.0) (λ r h. h.0 four))
      | inr other ↦ rw (ne_eqb _ _ other) (refusing (refusal (tag_place + 1) Length) _ _ (other, refl) (λ r h. sym h.1) (λ a h. other (ap length h.0 ∙ h.1)))
    ]

pub body_exact : (tag_place at : ℕ) (contents : List ℕ) → Exact (body_at tag_place at contents) (λ body. (contents ≡ body) × IsBody body) (RefusesBody tag_place at contents)
unfolding body_at
body_exact tag_place at contents =
    elim (cases_lt (length contents) 46) [
      | inl few ↦ rw (lt-ltb _ _ few) (refuses (λ h. absurd (omega (arith, h.least))))
      | inr enough ↦
          elim (cases_lt 110 (length contents)) [
            | inl many ↦ rw (le-ltb _ _ enough, lt-ltb _ _ many) (refuses (λ h. absurd (omega (arith, h.most))))
            | inr le ↦
                let is : IsBody contents = record { least = enough; most = le } in
                rw (le-ltb _ _ enough, le-ltb _ _ le) (accepting contents _ _ (refl, is) (λ a h. h.0) (λ r h. h.0 is))
          ]
    ]
  where
    refuses : ¬ (IsBody contents) → Exact (Err (refusal tag_place Body)) (λ body. (contents ≡ body) × IsBody body) (RefusesBody tag_place at contents)
    refuses none = refusing (refusal tag_place Body) _ _ (none, refl) (λ r h. sym h.1) (λ a h. none (subst IsBody (sym h.0) h.1))

same_number : (contents : List ℕ) (m n : ℕ) → IsNumber contents m → IsNumber contents n → m ≡ n
same_number contents m n a b = a.value ∙ sym b.value

-- one number, and no other
pub this_exact : (wanted : ℕ) (why : Why) (tag_place at : ℕ) (contents : List ℕ) → Exact (this_at wanted why tag_place at contents) (λ _. IsNumber contents wanted) (RefusesOther wanted why tag_place at contents)
unfolding this_at
this_exact wanted why tag_place at contents =
    let number = number_exact tag_place at contents in
    elim (either (number_at tag_place at contents)) [
      | inr none ↦
          let row = number.err none.0 none.1 in
          rw none.1 (refusing none.0 _ _ (inl row) (λ r h. only none.0 r row h) (λ a h. row.0 wanted h))
      | inl n ↦
          let is = number.ok n.0 n.1 in
          elim (cases_eq n.0 wanted) [
            | inl same ↦
                let found : IsNumber contents wanted = subst (IsNumber contents) same is in
                rw (n.1, eq-eqb _ _ same) (accepting tt _ _ found (λ a h. refl) (λ r h. none_left found r h))
            | inr other ↦ rw (n.1, ne_eqb _ _ other) (refusing (refusal tag_place why) _ _ (inr (n.0, is, other, refl)) (λ r h. only_other n.0 is r h) (λ a h. other (same_number contents n.0 wanted is h)))
          ]
    ]
  where
    only : (s r : Refusal) → RefusesNumber tag_place at contents s → RefusesOther wanted why tag_place at contents r → s ≡ r
    only s r row (inl h) = row.1 ∙ sym h.1
    only s r row (inr h) = absurd (row.0 h.0 h.1)

    none_left : IsNumber contents wanted → (r : Refusal) → RefusesOther wanted why tag_place at contents r → ⊥
    none_left found r (inl h) = h.0 wanted found
    none_left found r (inr h) = h.2 (same_number contents h.0 wanted h.1 found)

    only_other : (n : ℕ) → IsNumber contents n → (r : Refusal) → RefusesOther wanted why tag_place at contents r → refusal tag_place why ≡ r
    only_other n is r (inl h) = absurd (h.0 n is)
    only_other n is r (inr h) = sym h.3
