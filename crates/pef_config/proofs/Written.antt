-- What one write of a table puts at each of its places.
use Rattle.std.proofs.Common.{◌≡◌, ◌≢◌, ℕ, zero, suc, ◌-◌, ◌≤◌, ◌∙◌, ap, sym, subst, refl, true, false, Bool, cond, List, [], ◌∷◌, set, get_or, length, take, drop, arith, eqb, leb, eqb-true}
use Rattle.std.specs.Prelude.{◌&&◌}
use Rattle.std.specs.Option.{unwrap_or}
use Rattle.std.proofs.lemmas.Bool.{and_parts, true≢false, leb-true}
use Rattle.std.proofs.lemmas.Bool.Decides.{nat_tests}
use Rattle.std.proofs.lemmas.List.{get_or-set_same, get_or-set_other, take_all, length-drop, length-set}
use Rattle.std.proofs.lemmas.Option.{get_or_from_slice_get, unwrap_or-slice_get}
use Rattle.alert_strings.specs.declared.strings.Strings.{Strings}
use Rattle.alert_strings.specs.Kept.{blocks, keys}
use Rattle.alert_strings.specs.Table.{block_place}
use Rattle.event_record.specs.Fields.{octet}
use Rattle.filter_table.specs.Filters.{is_number, numbered}
use Rattle.policy_table.specs.Table.{Replaces}
use Rattle.pef_config.specs.Kept.{key_octets, key_at, block_at}
use Rattle.pef_config.specs.Places.{selector, selects, selects_block, only_if, last_or}
use Rattle.pef_config.proofs.Numbered.{numbered-one_on}

-- a place where the write is its own, and any other
chosen : (own : Bool) (new old octets : List ℕ) → (own ≡ true → new ≡ octets) → (own ≡ false → new ≡ old) → new ≡ last_or old (only_if own octets)
chosen true new old octets placed other = placed refl
chosen false new old octets placed other = other refl

other_number : (s n : ℕ) → eqb s n ≡ false → n ≢ s
other_number s n apart = grind (arith, nat_tests)

-- what stands behind the first k octets is all of it
pub rest_taken : (k : ℕ) (payload : List ℕ) → take (length payload - k) (drop k payload) ≡ drop k payload
rest_taken k payload = take_all (length payload - k) (drop k payload) (omega (arith, length-drop k payload))

-- of three octets the two behind the first
pub behind_first : (payload : List ℕ) → length payload ≡ 3 → drop 1 payload ≡ octet 2 payload ∷ octet 3 payload ∷ []
behind_first [] three = absurd (cc three)
behind_first (a ∷ []) three = absurd (cc three)
behind_first (a ∷ b ∷ []) three = absurd (cc three)
behind_first (a ∷ b ∷ c ∷ []) three = refl
behind_first (a ∷ b ∷ c ∷ d ∷ more) three = absurd (cc three)

leb-within : (n m : ℕ) → n ≤ m → leb n m ≡ true
leb-within n m within = grind (arith, nat_tests)

module _ (payload : List ℕ) (old new : List (List ℕ)) (one : 1 ≤ selector (octet 1 payload)) (replaced : Replaces (selector (octet 1 payload)) (drop 1 payload) old new) where
  abbrev s : ℕ
  s = selector (octet 1 payload)

  same_entry : (n : ℕ) → 1 ≤ n → n ≢ s → get_or new (n - 1) [] ≡ get_or old (n - 1) []
  same_entry n some other = sym (unwrap_or-slice_get new (n - 1) []) ∙ ap (λ o. unwrap_or o []) (replaced.others n other some) ∙ unwrap_or-slice_get old (n - 1) []

  other_from : (n : ℕ) → 1 ≤ n → n ≢ s → numbered new n ≡ numbered old n
  other_from n some other = numbered-one_on new n some ∙ same_entry n some other ∙ sym (numbered-one_on old n some)

  other_entry : (n : ℕ) → n ≢ s → numbered new n ≡ numbered old n
  other_entry zero other = refl
  other_entry (suc i) other = other_from (suc i) (omega arith) other

  pub policy_written : (n : ℕ) → numbered new n ≡ last_or (numbered old n) (only_if (selects payload n) (drop 1 payload))
  policy_written n = chosen (selects payload n) _ _ _
      (λ same. let P : ℕ → Type 0 = λ m. numbered new m ≡ drop 1 payload in
      subst P (eqb-true s n same) (numbered-one_on new s one ∙ get_or_from_slice_get new (s - 1) (drop 1 payload) [] replaced.replaced))
      (λ apart. other_entry n (other_number s n apart))

module _ (payload : List ℕ) (old new : Strings) (within : selector (octet 1 payload) ≤ 8) where
  abbrev t : ℕ
  t = selector (octet 1 payload)

  module _ (key : ℕ × ℕ) (count : length (keys new) ≡ 9) (placed : keys new ≡ set (keys old) t key) (two : drop 1 payload ≡ key_octets key) where
    nine : length (keys old) ≡ 9
    nine = sym (length-set (keys old) t key) ∙ ap length (sym placed) ∙ count

    own_key : key_at new t ≡ drop 1 payload
    own_key =
        ap (λ b. cond b (key_octets (get_or (keys new) t (0, 0))) []) (leb-within t 8 within)
        ∙ ap (λ ks. key_octets (get_or ks t (0, 0))) placed
        ∙ ap key_octets (get_or-set_same (keys old) t key (0, 0) (omega (arith, nine, within)))
        ∙ sym two

    other_key : (n : ℕ) → n ≢ t → key_at new n ≡ key_at old n
    other_key n other =
        ap (λ ks. cond (leb n 8) (key_octets (get_or ks n (0, 0))) []) placed
        ∙ ap (λ k. cond (leb n 8) (key_octets k) []) (get_or-set_other (keys old) t n key (0, 0) other)

    pub key_written : (n : ℕ) → key_at new n ≡ last_or (key_at old n) (only_if (selects payload n) (drop 1 payload))
    key_written n = chosen (selects payload n) _ _ _
        (λ same. let P : ℕ → Type 0 = λ m. key_at new m ≡ drop 1 payload in subst P (eqb-true t n same) own_key)
        (λ apart. other_key n (other_number t n apart))

  module _ (octets : List ℕ) (count : length (blocks new) ≡ 36) (block_in : is_number 4 (octet 2 payload) ≡ true) (placed : blocks new ≡ set (blocks old) (block_place 4 t (octet 2 payload)) octets) where
    abbrev k : ℕ
    k = octet 2 payload

    all : length (blocks old) ≡ 36
    all = sym (length-set (blocks old) (block_place 4 t k) octets) ∙ ap length (sym placed) ∙ count

    block_range : (1 ≤ k) × (k ≤ 4)
    block_range = (leb-true 1 k (and_parts (leb 1 k) (leb k 4) block_in).0, leb-true k 4 (and_parts (leb 1 k) (leb k 4) block_in).1)

    own_block : block_at new t k ≡ octets
    own_block =
        ap (λ b. cond (b && is_number 4 k) (get_or (blocks new) (block_place 4 t k) []) []) (leb-within t 8 within)
        ∙ ap (λ b. cond b (get_or (blocks new) (block_place 4 t k) []) []) block_in
        ∙ ap (λ bs. get_or bs (block_place 4 t k) []) placed
        ∙ get_or-set_same (blocks old) (block_place 4 t k) octets [] (omega (arith, all, within, block_range.0, block_range.1))

    -- two blocks stand at two places
    apart_at : (n block : ℕ) → is_number 4 block ≡ true → (eqb t n && eqb k block) ≡ false → block_place 4 n block ≢ block_place 4 t k
    apart_at n block block_is apart e =
        let least : 1 ≤ block = leb-true 1 block (and_parts (leb 1 block) (leb block 4) block_is).0 in
        let most : block ≤ 4 = leb-true block 4 (and_parts (leb 1 block) (leb block 4) block_is).1 in
        let same_string : t ≡ n = omega (arith, e, block_range.0, block_range.1, least, most) in
        let same_block : k ≡ block = omega (arith, e, block_range.0, block_range.1, least, most) in
        true≢false (sym (ap (λ m. eqb t m && eqb k block) (sym same_string) ∙ ap (λ m. eqb t t && eqb k m) (sym same_block) ∙ both) ∙ apart)
      where
        both : (eqb t t && eqb k k) ≡ true
        both = grind (arith, nat_tests)

    guarded : (g : Bool) (n block : ℕ) → (g ≡ true → get_or (blocks new) (block_place 4 n block) [] ≡ get_or (blocks old) (block_place 4 n block) [])
        → cond g (get_or (blocks new) (block_place 4 n block) []) [] ≡ cond g (get_or (blocks old) (block_place 4 n block) []) []
    guarded true n block same = same refl
    guarded false n block same = refl

    other_block : (n block : ℕ) → (eqb t n && eqb k block) ≡ false → block_at new n block ≡ block_at old n block
    other_block n block apart = guarded (leb n 8 && is_number 4 block) n block (λ holds.
        ap (λ bs. get_or bs (block_place 4 n block) []) placed
        ∙ get_or-set_other (blocks old) (block_place 4 t k) (block_place 4 n block) octets []
        (apart_at n block (and_parts (leb n 8) (is_number 4 block) holds).1 apart))

    pub block_written : (n block : ℕ) → block_at new n block ≡ last_or (block_at old n block) (only_if (selects_block payload n block) octets)
    block_written n block = chosen (selects_block payload n block) _ _ _
        (λ same. let parts : (eqb t n ≡ true) × (eqb k block ≡ true) = and_parts (eqb t n) (eqb k block) same in
        let P : ℕ → Type 0 = λ m. block_at new m k ≡ octets in
        let Q : ℕ → Type 0 = λ b. block_at new n b ≡ octets in
        subst Q (eqb-true k block parts.1) (subst P (eqb-true t n parts.0) own_block))
        (λ apart. other_block n block apart)
