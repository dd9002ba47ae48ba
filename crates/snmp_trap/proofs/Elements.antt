-- The element at the front of octets: reading finds it exactly where it stands, and refuses it exactly as the table says.
use Rattle.std.proofs.Common.{◌≡◌, ◌≢◌, ◌⊎◌, ℕ, ◌+◌, ◌-◌, ◌<◌, ◌≤◌, Bool, true, false, cond, eqb, ltb, ◌||◌, List, [], ◌∷◌, ◌++◌, length, take, drop, Ok, Err, refl, sym, ap, subst, ◌∙◌, inl, inr, arith}
use Rattle.std.proofs.lemmas.Bool.{cases_lt, cases_eq, false≢true, ltb-false, ltb-true, le-ltb, lt-ltb, ne_eqb}
use Rattle.std.proofs.lemmas.List.{take_at, drop_at, take-append-drop, length-append, length-take}
use Rattle.snmp_trap.specs.declared.refusal.Refusal.{Refusal}
use Rattle.snmp_trap.specs.declared.refusal.Why.TheVariants.{Tag, Length}
use Rattle.snmp_trap.specs.Grammar.{number_of, IsLength}
use Rattle.snmp_trap.specs.Refusals.{refusal, Front, inside, IsBadLength, RefusesHeader}
use Rattle.snmp_trap.specs.Reading.{Part, cut_at, length_at, element_at}
use Rattle.snmp_trap.proofs.Results.{chosen, ok_is, err_is, ok-err, either}

abbrev pub made : ℕ → ℕ → List ℕ → List ℕ → Part
made at start contents rest = record { at = at; inside = start; contents = contents; after = start + length contents; rest = rest }

cut_ok : (past : Refusal) (at start n : ℕ) (octets : List ℕ) (p : Part) → cut_at past at start n octets ≡ Ok p → (n ≡ length (take n octets)) × (p ≡ made at start (take n octets) (drop n octets))
unfolding cut_at
cut_ok past at start n octets p e =
    elim (chosen (ltb (length octets) n) (Err past) (Ok (record { at = at; inside = start; contents = take n octets; after = start + n; rest = drop n octets })) (Ok p) e) [
      | inl t ↦ absurd (ok-err p past (sym t.1))
      | inr f ↦
          let long : n ≤ length octets = ltb-false _ _ f.0 in
          let all : n ≡ length (take n octets) = omega (arith, length-take n octets) in
          let is : record { at = at; inside = start; contents = take n octets; after = start + n; rest = drop n octets } ≡ p = ok_is _ _ f.1 in
          (all, sym is ∙ ap (λ k. record { at = at; inside = start; contents = take n octets; after = start + k; rest = drop n octets }) all)
    ]

cut_again : (past : Refusal) (at start n : ℕ) (contents rest : List ℕ) → n ≡ length contents → cut_at past at start n (contents ++ rest) ≡ Ok (made at start contents rest)
unfolding cut_at
cut_again past at start n contents rest e =
    let long : ltb (length (contents ++ rest)) n ≡ false = le-ltb _ _ (omega (arith, length-append contents rest)) in
    rw (long, take_at contents rest n (sym e), drop_at contents rest n (sym e), e) refl

cut_err : (past : Refusal) (at start n : ℕ) (octets : List ℕ) (r : Refusal) → cut_at past at start n octets ≡ Err r → r ≡ past
unfolding cut_at
cut_err past at start n octets r e =
    elim (chosen (ltb (length octets) n) (Err past) (Ok (record { at = at; inside = start; contents = take n octets; after = start + n; rest = drop n octets })) (Err r) e) [
      | inl t ↦ sym (err_is _ _ t.1)
      | inr f ↦ absurd (ok-err _ r f.1)
    ]

-- ---- length octets

second : (a b : Bool) → (a || b) ≡ false → b ≡ false
second true b e = absurd (false≢true (sym e))
second false b e = e

good_length : (first : ℕ) → ((eqb first 128) || ltb 132 first) ≡ false → (first ≢ 128) × (first ≤ 132)
good_length first e = (λ is. absurd (false≢true (sym e ∙ ap (λ k. (eqb k 128) || ltb 132 k) is)), ltb-false _ _ (second (eqb first 128) (ltb 132 first) e))

bad_length : (first : ℕ) → ((eqb first 128) || ltb 132 first) ≡ true → (first ≡ 128) ⊎ (132 < first)
bad_length first e =
    elim (cases_eq first 128) [
      | inl is ↦ inl is
      | inr isnt ↦ inr (ltb-true _ _ (ap (λ b. b || ltb 132 first) (sym (ne_eqb _ _ isnt)) ∙ e))
    ]

is_good : (first : ℕ) → first ≢ 128 → first ≤ 132 → ((eqb first 128) || ltb 132 first) ≡ false
is_good first isnt le = rw (ne_eqb _ _ isnt, le-ltb _ _ le) refl

is_bad : (first : ℕ) → (first ≡ 128) ⊎ (132 < first) → (((eqb first 128) || ltb 132 first) ≡ true) × (ltb first 128 ≡ false)
is_bad first (inl is) = rw is (refl, refl)
is_bad first (inr gt) =
    let isnt : first ≢ 128 = omega arith in
    let above : 128 ≤ first = omega arith in
    (rw (ne_eqb _ _ isnt, lt-ltb _ _ gt) refl, le-ltb _ _ above)

pub record Header (at : ℕ) (octets : List ℕ) (p : Part) : Type 0 where
  pub spelled : List ℕ
  pub is_length : IsLength spelled (length p.contents)
  pub parts : octets ≡ spelled ++ (p.contents ++ p.rest)
  pub is : p ≡ made at (at + 1 + length spelled) p.contents p.rest

length_ok : (past : Refusal) (at : ℕ) (octets : List ℕ) (p : Part) → length_at past at octets ≡ Ok p → Header at octets p
unfolding length_at
length_ok past at [] p e = absurd (ok-err p past (sym e))
length_ok past at (first ∷ more) p e =
    let long = cond ((eqb first 128) || ltb 132 first) (Err (refusal (at + 1) Length)) (cond (ltb (length more) (first - 128)) (Err past) (cut_at past at (at + 2 + (first - 128)) (number_of (take (first - 128) more)) (drop (first - 128) more))) in
    elim (chosen (ltb first 128) (cut_at past at (at + 2) first more) long (Ok p) e) [
      | inl t ↦
          let c = cut_ok past at (at + 2) first more p t.1 in
          subst (Header at (first ∷ more)) (sym c.1) (record {
            spelled = first ∷ [];
            is_length = inl (ltb-true _ _ t.0, refl, sym c.0);
            parts = ap (λ (w : List ℕ). first ∷ w) (sym (take-append-drop first more));
            is = ap (λ k. made at k (take first more) (drop first more)) (omega arith);
          })
      | inr f ↦
          let n = first - 128 in
          let digits = take n more in
          let behind_digits = drop n more in
          let short = cond (ltb (length more) n) (Err past) (cut_at past at (at + 2 + n) (number_of digits) behind_digits) in
          elim (chosen ((eqb first 128) || ltb 132 first) (Err (refusal (at + 1) Length)) short (Ok p) f.1) [
            | inl t ↦ absurd (ok-err p _ (sym t.1))
            | inr g ↦
                elim (chosen (ltb (length more) n) (Err past) (cut_at past at (at + 2 + n) (number_of digits) behind_digits) (Ok p) g.1) [
                  | inl t ↦ absurd (ok-err p _ (sym t.1))
                  | inr h ↦
                      let c = cut_ok past at (at + 2 + n) (number_of digits) behind_digits p h.1 in
                      let above = ltb-false _ _ f.0 in
                      let ends = good_length first g.0 in
                      let enough : n ≤ length more = ltb-false _ _ h.0 in
                      let count : length digits ≡ n = omega (arith, length-take n more) in
                      subst (Header at (first ∷ more)) (sym c.1) (record {
                        spelled = first ∷ digits;
                        is_length = inr (omega (arith, count, ends.0, above), omega (arith, count, ends.1), omega (arith, count, above), sym c.0);
                        parts = ap (λ (w : List ℕ). first ∷ w) (sym (take-append-drop n more) ∙ ap (λ (w : List ℕ). digits ++ w) (sym (take-append-drop (number_of digits) behind_digits)));
                        is = ap (λ k. made at k (take (number_of digits) behind_digits) (drop (number_of digits) behind_digits)) (omega (arith, count));
                      })
                ]
          ]
    ]

length_again : (past : Refusal) (at : ℕ) (spelled contents rest : List ℕ) → IsLength spelled (length contents) → length_at past at (spelled ++ (contents ++ rest)) ≡ Ok (made at (at + 1 + length spelled) contents rest)
unfolding length_at
length_again past at [] contents rest l = absurd l
length_again past at (first ∷ more) contents rest (inl short) =
    let below : ltb first 128 ≡ true = lt-ltb _ _ short.0 in
    let start : at + 2 ≡ at + 1 + length (first ∷ more) = omega (arith, ap length short.1) in
    rw below (ap (λ (w : List ℕ). cut_at past at (at + 2) first (w ++ (contents ++ rest))) short.1 ∙ cut_again past at (at + 2) first contents rest (sym short.2) ∙ ap (λ k. Ok (made at k contents rest)) start)
length_again past at (first ∷ more) contents rest (inr long) =
    let n = first - 128 in
    let count : n ≡ length more = omega (arith, long.2) in
    let above : ltb first 128 ≡ false = le-ltb _ _ (omega (arith, long.2)) in
    let good : ((eqb first 128) || ltb 132 first) ≡ false = is_good first (omega (arith, long.0, long.2)) (omega (arith, long.1, long.2)) in
    let enough : ltb (length (more ++ (contents ++ rest))) n ≡ false = le-ltb _ _ (omega (arith, count, length-append more (contents ++ rest))) in
    let start : at + 2 + n ≡ at + 1 + length (first ∷ more) = omega (arith, count) in
    rw (above, good, enough, take_at more (contents ++ rest) n (sym count), drop_at more (contents ++ rest) n (sym count)) (cut_again past at (at + 2 + n) (number_of more) contents rest (sym long.3) ∙ ap (λ k. Ok (made at k contents rest)) start)

length_bad : (past : Refusal) (at : ℕ) (octets : List ℕ) → IsBadLength octets → length_at past at octets ≡ Err (refusal (at + 1) Length)
unfolding length_at
length_bad past at [] bad = absurd bad
length_bad past at (first ∷ more) bad = let b = is_bad first bad in rw (b.1, b.0) refl

length_err : (past : Refusal) (at : ℕ) (octets : List ℕ) (r : Refusal) → ¬ (IsBadLength octets) → length_at past at octets ≡ Err r → r ≡ past
unfolding length_at
length_err past at [] r fine e = sym (err_is _ _ e)
length_err past at (first ∷ more) r fine e =
    let n = first - 128 in
    let short = cond (ltb (length more) n) (Err past) (cut_at past at (at + 2 + n) (number_of (take n more)) (drop n more)) in
    let long = cond ((eqb first 128) || ltb 132 first) (Err (refusal (at + 1) Length)) short in
    elim (chosen (ltb first 128) (cut_at past at (at + 2) first more) long (Err r) e) [
      | inl t ↦ cut_err past at (at + 2) first more r t.1
      | inr f ↦
          elim (chosen ((eqb first 128) || ltb 132 first) (Err (refusal (at + 1) Length)) short (Err r) f.1) [
            | inl t ↦ absurd (fine (bad_length first t.0))
            | inr g ↦
                elim (chosen (ltb (length more) n) (Err past) (cut_at past at (at + 2 + n) (number_of (take n more)) (drop n more)) (Err r) g.1) [
                  | inl t ↦ sym (err_is _ _ t.1)
                  | inr h ↦ cut_err past at (at + 2 + n) (number_of (take n more)) (drop n more) r h.1
                ]
          ]
    ]

bad_or_fine : (octets : List ℕ) → (IsBadLength octets) ⊎ (¬ (IsBadLength octets))
bad_or_fine [] = inr (λ bad. bad)
bad_or_fine (first ∷ more) =
    elim (cases_eq first 128) [
      | inl is ↦ inl (inl is)
      | inr isnt ↦
          elim (cases_lt 132 first) [
            | inl lt ↦ inl (inr lt)
            | inr le ↦ inr (λ bad. elim bad [ inl is ↦ isnt is | inr lt ↦ absurd (omega arith) ])
          ]
    ]

-- ---- elements

-- what reading makes of an element
abbrev pub part_of : {octets : List ℕ} → ℕ → Front octets → Part
part_of at front = made at (inside at front) front.contents front.rest

pub element_again : (past : Refusal) (wanted : ℕ → Bool) (at : ℕ) (octets : List ℕ) (front : Front octets) → wanted front.tag ≡ true → element_at past wanted at octets ≡ Ok (part_of at front)
unfolding element_at
element_again past wanted at octets front is =
    ap (element_at past wanted at) front.parts ∙ rw is (length_again past at front.spelled front.contents front.rest front.is_length)

pub element_ok : (past : Refusal) (wanted : ℕ → Bool) (at : ℕ) (octets : List ℕ) (p : Part) → element_at past wanted at octets ≡ Ok p → (front : Front octets) × (wanted front.tag ≡ true) × (p ≡ part_of at front)
unfolding element_at
element_ok past wanted at [] p e = absurd (ok-err p past (sym e))
element_ok past wanted at (tag ∷ more) p e =
    elim (chosen (wanted tag) (length_at past at more) (Err (refusal at Tag)) (Ok p) e) [
      | inl t ↦
          let h = length_ok past at more p t.1 in
          (record { tag = tag; spelled = h.spelled; contents = p.contents; rest = p.rest; is_length = h.is_length; parts = ap (λ (w : List ℕ). tag ∷ w) h.parts }, t.0, h.is)
      | inr f ↦ absurd (ok-err p _ (sym f.1))
    ]

-- what stands behind an element is shorter
pub rest_is_shorter : (octets : List ℕ) (front : Front octets) → length front.rest < length octets
rest_is_shorter octets front =
    omega (arith, ap length front.parts, length-append front.spelled (front.contents ++ front.rest), length-append front.contents front.rest)

pub element_err : (past : ℕ → List ℕ → Refusal) (wanted : ℕ → Bool) (at : ℕ) (octets : List ℕ) (r : Refusal) → element_at (past at octets) wanted at octets ≡ Err r → RefusesHeader past wanted at octets r
unfolding element_at
element_err past wanted at [] r e = sym (err_is _ _ e)
element_err past wanted at (tag ∷ more) r e =
    let reach = past at (tag ∷ more) in
    elim (chosen (wanted tag) (length_at reach at more) (Err (refusal at Tag)) (Err r) e) [
      | inl t ↦
          elim (bad_or_fine more) [
            | inl bad ↦ inr (inl (t.0, bad, err_is _ _ (sym t.1 ∙ length_bad reach at more bad)))
            | inr fine ↦ inr (inr (t.0, fine, (λ front. ok-err _ r (sym (element_again reach wanted at (tag ∷ more) front (ap wanted (sym (heads tag more front)) ∙ t.0)) ∙ e)), length_err reach at more r fine t.1))
          ]
      | inr f ↦ inl (f.0, sym (err_is _ _ f.1))
    ]
  where
    heads : (tag : ℕ) (more : List ℕ) (front : Front (tag ∷ more)) → tag ≡ front.tag
    heads tag more front = let e = front.parts in cc

pub element_no : (past : ℕ → List ℕ → Refusal) (wanted : ℕ → Bool) (at : ℕ) (octets : List ℕ) (r : Refusal) → RefusesHeader past wanted at octets r → element_at (past at octets) wanted at octets ≡ Err r
unfolding element_at
element_no past wanted at [] r e = ap (λ d. Err d) (sym e)
element_no past wanted at (tag ∷ more) r (inl other) = rw other.0 (ap (λ d. Err d) (sym other.1))
element_no past wanted at (tag ∷ more) r (inr (inl bad)) = rw bad.0 (length_bad (past at (tag ∷ more)) at more bad.1 ∙ ap (λ d. Err d) (sym bad.2))
element_no past wanted at (tag ∷ more) r (inr (inr far)) =
    let reach = past at (tag ∷ more) in
    rw far.0 (elim (either (length_at reach at more)) [
      | inl ok ↦
          let h = length_ok reach at more ok.0 ok.1 in
          absurd (far.2 (record { tag = tag; spelled = h.spelled; contents = ok.0.contents; rest = ok.0.rest; is_length = h.is_length; parts = ap (λ (w : List ℕ). tag ∷ w) h.parts }))
      | inr err ↦ err.1 ∙ ap (λ d. Err d) (length_err reach at more err.0 far.1 err.1 ∙ sym far.3)
    ])
