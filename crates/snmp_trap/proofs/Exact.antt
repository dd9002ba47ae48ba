-- Reading that is exact: it answers what is accepted, and refuses what is refused. Exact steps make exact readings.
use Rattle.std.proofs.Common.{◌≡◌, ℕ, Bool, true, List, Result, Ok, Err, refl, sym, subst, ◌∙◌, inl, inr}
use Rattle.snmp_trap.specs.declared.refusal.Refusal.{Refusal}
use Rattle.snmp_trap.specs.Refusals.{Front, inside, behind, Refuses, Rows, RefusesThen}
use Rattle.snmp_trap.specs.Reading.{◌>>=◌, Part, element_at, field}
use Rattle.snmp_trap.proofs.Results.{bind_ok, bind_err, either}
use Rattle.snmp_trap.proofs.Elements.{element_again, element_ok, element_err, element_no}

pub record Exact {A : Type 0} (read : Result A Refusal) (accepts : A → Type 0) (refuses : Refusal → Type 0) : Type 0 where
  pub ok : (a : A) → read ≡ Ok a → accepts a
  pub again : (a : A) → accepts a → read ≡ Ok a
  pub err : (r : Refusal) → read ≡ Err r → refuses r
  pub no : (r : Refusal) → refuses r → read ≡ Err r

-- an exact reading, said in other words
pub exact_as : {A : Type 0} (read : Result A Refusal) (f g : A → Type 0) (p q : Refusal → Type 0) → Exact read f p → ((a : A) → f a → g a) → ((a : A) → g a → f a) → ((r : Refusal) → p r → q r) → ((r : Refusal) → q r → p r) → Exact read g q
exact_as read f g p q e fg gf pq qp = record {
  ok = λ a is. fg a (e.ok a is);
  again = λ a h. e.again a (gf a h);
  err = λ r is. pq r (e.err r is);
  no = λ r h. e.no r (qp r h);
}

-- an element whose contents are accepted, and what follows it
pub record FieldIs {A B : Type 0} (wanted : ℕ → Bool) (accepts : List ℕ → A → Type 0) (next : List ℕ → A → List ℕ → B → Type 0) (octets : List ℕ) (b : B) : Type 0 where
  pub front : Front octets
  pub is_wanted : wanted front.tag ≡ true
  pub value : A
  pub accepted : accepts front.contents value
  pub then : next front.contents value front.rest b

pub field_exact : {A B : Type 0} (past : ℕ → List ℕ → Refusal) (wanted : ℕ → Bool) (judge : ℕ → ℕ → List ℕ → Result A Refusal) (go : List ℕ → A → ℕ → List ℕ → Result B Refusal) (accepts : List ℕ → A → Type 0) (next : List ℕ → A → List ℕ → B → Type 0) (rows : Rows) (more : List ℕ → Refuses) (at : ℕ) (octets : List ℕ)
    → ((front : Front octets) → wanted front.tag ≡ true → Exact (judge at (inside at front) front.contents) (accepts front.contents) (rows at (inside at front) front.contents))
    → ((front : Front octets) → wanted front.tag ≡ true → (x : A) → accepts front.contents x → Exact (go front.contents x (behind at front) front.rest) (next front.contents x front.rest) (more front.contents (behind at front) front.rest))
    → Exact (field past wanted judge go at octets) (FieldIs wanted accepts next octets) (RefusesThen past wanted rows more at octets)
field_exact {A = A} {B = B} past wanted judge go accepts next rows more at octets first second = record {
  ok = λ b e.
      let s = bind_ok element (λ p. judge p.at p.inside p.contents >>= λ x. go p.contents x p.after p.rest) b e in
      let t = bind_ok (judge s.0.at s.0.inside s.0.contents) (λ x. go s.0.contents x s.0.after s.0.rest) b s.2 in
      let f = element_ok reach wanted at octets s.0 s.1 in
      let judged = subst (λ (p : Part). judge p.at p.inside p.contents ≡ Ok t.0) f.2 t.1 in
      let went = subst (λ (p : Part). go p.contents t.0 p.after p.rest ≡ Ok b) f.2 t.2 in
      let accepted = (first f.0 f.1).ok t.0 judged in
      record { front = f.0; is_wanted = f.1; value = t.0; accepted = accepted; then = (second f.0 f.1 t.0 accepted).ok b went };
  again = λ b h. rw (element_again reach wanted at octets h.front h.is_wanted, (first h.front h.is_wanted).again h.value h.accepted) ((second h.front h.is_wanted h.value h.accepted).again b h.then);
  err = λ r e.
      elim (bind_err element (λ p. judge p.at p.inside p.contents >>= λ x. go p.contents x p.after p.rest) r e) [
        | inl header ↦ inl (inl (element_err past wanted at octets r header))
        | inr s ↦
            let f = element_ok reach wanted at octets s.0 s.1 in
            elim (bind_err (judge s.0.at s.0.inside s.0.contents) (λ x. go s.0.contents x s.0.after s.0.rest) r s.2) [
              | inl judged ↦ inl (inr (f.0, f.1, (first f.0 f.1).err r (subst (λ (p : Part). judge p.at p.inside p.contents ≡ Err r) f.2 judged)))
              | inr t ↦
                  let judged = subst (λ (p : Part). judge p.at p.inside p.contents ≡ Ok t.0) f.2 t.1 in
                  let went = subst (λ (p : Part). go p.contents t.0 p.after p.rest ≡ Err r) f.2 t.2 in
                  inr (f.0, f.1, (λ s. λ row. absurd (apart t.0 s (sym judged ∙ (first f.0 f.1).no s row))), (second f.0 f.1 t.0 ((first f.0 f.1).ok t.0 judged)).err r went)
            ]
      ];
  no = λ r h.
      elim h [
        | inl here ↦
            elim here [
              | inl header ↦ rw (element_no past wanted at octets r header) refl
              | inr row ↦ rw (element_again reach wanted at octets row.0 row.1, (first row.0 row.1).no r row.2) refl
            ]
        | inr later ↦
            elim (either (judge at (inside at later.0) later.0.contents)) [
              | inl x ↦ rw (element_again reach wanted at octets later.0 later.1, x.1) ((second later.0 later.1 x.0 ((first later.0 later.1).ok x.0 x.1)).no r later.3)
              | inr s ↦ absurd (later.2 s.0 ((first later.0 later.1).err s.0 s.1))
            ]
      ];
}
  where
    reach : Refusal
    reach = past at octets

    element : Result Part Refusal
    element = element_at reach wanted at octets

    apart : (x : A) (s : Refusal) → Ok x ≡ Err s → ⊥
    apart x s e = cc
