-- Policy sets: how they grow by an entry, and why all of them together have at most as many alerts as the table has entries.
use Rattle.std.proofs.Common.{◌≡◌, ℕ, zero, suc, ◌+◌, ◌-◌, ◌<◌, ◌≤◌, ◌&&◌, Bool, true, false, cond, List, [], ◌∷◌, ◌++◌, filter_map, flat_map, Option, Some, None, ◌∙◌, ap, sym, subst, refl, eqb, ltb, leb, add-one, append-nil, append_assoc, length, length-append, arith}
use Rattle.std.specs.List.{cons_option}
use Rattle.std.proofs.lemmas.Bool.Decides.{nat_tests}
use Rattle.std.proofs.lemmas.List.Elements.{filter_map-append}
use Rattle.std.proofs.lemmas.Grind.{flat_map-append}
use Rattle.lan_dest.specs.declared.destination.Ports.{Ports}
use Rattle.lan_dest.specs.Parameters.{Tables as LanTables}
use Rattle.pef_config.specs.Places.{Tables, Policy, our_sizes}
use Rattle.policy_table.specs.Entry.{bits, octet, policy, policy_number}
use Rattle.pef_match.specs.declared.alarm.Alarm.{Alarm}
use Rattle.pef_match.specs.declared.target.Target.{Target}
use Rattle.pef_match.specs.Alerts.{alarm_in, is_in_set, target_of, set_by, set_of, targets_of}
use Rattle.pef_match.specs.Numbers.{numbers_from}
use Rattle.pef_match.proofs.Rows.{numbers_more, numbers_parted, length-numbers_from}

module _ (f : ℕ → Option Target) where
  -- what the first numbers give, and one more
  pub given_more : (k : ℕ) → filter_map f (numbers_from 1 (k + 1)) ≡ filter_map f (numbers_from 1 k) ++ cons_option (f (1 + k)) []
  given_more k = ap (filter_map f) (numbers_more 1 k) ∙ filter_map-append f (numbers_from 1 k) ((1 + k) ∷ [])

  -- what the first numbers give, and one more that gives something, is no more than what all give
  pub room_for_one : (k more : ℕ) (x : Target) → f (1 + k) ≡ Some x
      → length (filter_map f (numbers_from 1 k)) + 1 ≤ length (filter_map f (numbers_from 1 (k + suc more)))
  room_for_one k more x is =
      let first = filter_map f (numbers_from 1 k) in
      let others = filter_map f (numbers_from (1 + k + 1) more) in
      let parted : filter_map f (numbers_from 1 (k + suc more)) ≡ first ++ x ∷ others =
      ap (filter_map f) (numbers_parted 1 k (suc more))
      ∙ filter_map-append f (numbers_from 1 k) (numbers_from (1 + k) (suc more))
      ∙ ap (λ o. first ++ cons_option o others) is in
      let counted : length (filter_map f (numbers_from 1 (k + suc more))) ≡ length first + length (x ∷ others) = ap length parted ∙ length-append first (x ∷ others) in
      omega (arith, counted)

  -- the same at an entry of this number
  pub given_next : (n : ℕ) (o : Option Target) → o ≡ f n → 1 ≤ n
      → filter_map f (numbers_from 1 (n + 1 - 1)) ≡ filter_map f (numbers_from 1 (n - 1)) ++ cons_option o []
  given_next n o is one =
      ap (λ k. filter_map f (numbers_from 1 k)) (before n one)
      ∙ given_more (n - 1)
      ∙ ap (λ k. filter_map f (numbers_from 1 (n - 1)) ++ cons_option (f k) []) (behind n one)
      ∙ ap (λ p. filter_map f (numbers_from 1 (n - 1)) ++ cons_option p []) (sym is)
    where
      before : (n : ℕ) → 1 ≤ n → n + 1 - 1 ≡ n - 1 + 1
      before n one = omega arith

      behind : (n : ℕ) → 1 ≤ n → 1 + (n - 1) ≡ n
      behind n one = omega arith

  pub room_at : (n : ℕ) (x : Target) → 1 ≤ n → n < 17 → f n ≡ Some x
      → length (filter_map f (numbers_from 1 (n - 1))) + 1 ≤ length (filter_map f (numbers_from 1 16))
  room_at n x one within is =
      subst (λ count. length (filter_map f (numbers_from 1 (n - 1))) + 1 ≤ length (filter_map f (numbers_from 1 count))) (all n one within)
      (room_for_one (n - 1) (16 - n) x (ap f (behind n one) ∙ is))
    where
      behind : (n : ℕ) → 1 ≤ n → 1 + (n - 1) ≡ n
      behind n one = omega arith

      all : (n : ℕ) → 1 ≤ n → n < 17 → n - 1 + suc (16 - n) ≡ 16
      all n one within = omega arith

  -- a list with the alerts so far, and one more or none
  pub grown : (old items longer : List Target) (n : ℕ) (o : Option Target) → o ≡ f n → 1 ≤ n → items ≡ old ++ filter_map f (numbers_from 1 (n - 1))
      → longer ≡ items ++ cons_option o [] → longer ≡ old ++ filter_map f (numbers_from 1 (n + 1 - 1))
  grown old items longer n o is one so_far more =
      more
      ∙ ap (λ l. l ++ cons_option o []) so_far
      ∙ append_assoc old (filter_map f (numbers_from 1 (n - 1))) (cons_option o [])
      ∙ ap (λ l. old ++ l) (sym (given_next n o is one))

module _ (number : ℕ → ℕ) where
  -- how many of the entries have this number, and how many a lesser one
  abbrev named : ℕ → List ℕ → ℕ
  named n [] = 0
  named n (k ∷ entries) = cond (eqb (number k) n) 1 0 + named n entries

  abbrev below : ℕ → List ℕ → ℕ
  below n [] = 0
  below n (k ∷ entries) = cond (ltb (number k) n) 1 0 + below n entries

  below_more : (n : ℕ) (entries : List ℕ) → below n entries + named n entries ≡ below (n + 1) entries
  below_more n [] = refl
  below_more n (k ∷ entries) = omega (arith, one (number k) n, below_more n entries)
    where
      one : (a n : ℕ) → cond (ltb a n) 1 0 + cond (eqb a n) 1 0 ≡ cond (ltb a (n + 1)) 1 0
      one a n = grind (arith, nat_tests)

  below_all : (n : ℕ) (entries : List ℕ) → below n entries ≤ length entries
  below_all n [] = omega arith
  below_all n (k ∷ entries) = omega (arith, at_most_one (ltb (number k) n), below_all n entries)
    where
      at_most_one : (b : Bool) → cond b 1 0 ≤ 1
      at_most_one true = omega arith
      at_most_one false = omega arith

-- the alert of an entry of a set
abbrev pub entry_alert : Tables → LanTables → Ports → ℕ → Alarm → ℕ → Option Target
entry_alert t lan ports number alarm n = cond (is_in_set number (t (Policy n))) (target_of our_sizes t lan ports alarm n (t (Policy n))) None

-- all alerts of a set, and none where no filter asks for them
pub all_entries : (t : Tables) (lan : LanTables) (ports : Ports) (number : ℕ) (alarm : Alarm)
    → filter_map (entry_alert t lan ports number alarm) (numbers_from 1 16) ≡ set_by our_sizes t lan ports number (Some alarm)
unfolding set_by
all_entries t lan ports number alarm = refl

pub no_entries : (t : Tables) (lan : LanTables) (ports : Ports) (number : ℕ) → [] ≡ set_by our_sizes t lan ports number None
unfolding set_by
no_entries t lan ports number = refl

module _ (t : Tables) (lan : LanTables) (ports : Ports) (event : List ℕ) where
  abbrev number_of : ℕ → ℕ
  number_of n = policy_number (t (Policy n))

  -- a set has at most as many alerts as the table has entries of its number
  one_entry : (a b c : Bool) (x : Option Target) (others : List Target) (n : ℕ) → length others ≤ n
      → length (cons_option (cond (a && b && c) x None) others) ≤ cond a 1 0 + n
  one_entry true true true (Some x) others n within = omega (arith, within)
  one_entry true true true None others n within = omega (arith, within)
  one_entry true true false x others n within = omega (arith, within)
  one_entry true false c x others n within = omega (arith, within)
  one_entry false b c x others n within = omega (arith, within)

  length-entries : (number : ℕ) (alarm : Alarm) (entries : List ℕ)
      → length (filter_map (entry_alert t lan ports number alarm) entries)
      ≤ named number_of number entries
  length-entries number alarm [] = omega arith
  length-entries number alarm (k ∷ entries) =
      let e = t (Policy k) in
      one_entry (eqb (policy_number e) number) (eqb (bits 3 3 (octet 1 e)) 1) (leb (policy e) 4) (target_of our_sizes t lan ports alarm k e)
      (filter_map (entry_alert t lan ports number alarm) entries)
      (named number_of number entries) (length-entries number alarm entries)

  length-set_by : (number : ℕ) (alarm : Option Alarm) → length (set_by our_sizes t lan ports number alarm) ≤ named number_of number (numbers_from 1 16)
  unfolding set_by
  length-set_by number None = omega arith
  length-set_by number (Some alarm) = length-entries number alarm (numbers_from 1 16)

  abbrev set : ℕ → List Target
  set number = set_of our_sizes t lan ports event number

  pub sets_more : (k : ℕ) → flat_map set (numbers_from 1 (k + 1)) ≡ flat_map set (numbers_from 1 k) ++ set (1 + k)
  sets_more k =
      ap (flat_map set) (numbers_more 1 k)
      ∙ flat_map-append set (numbers_from 1 k) ((1 + k) ∷ [])
      ∙ ap (λ s. flat_map set (numbers_from 1 k) ++ s) (append-nil (set (1 + k)))

  length-sets : (k : ℕ) → length (flat_map set (numbers_from 1 k)) ≤ below number_of (1 + k) (numbers_from 1 16)
  length-sets zero = omega arith
  length-sets (suc k) =
      let entries = numbers_from 1 16 in
      let longer : length (flat_map set (numbers_from 1 (suc k))) ≡ length (flat_map set (numbers_from 1 k)) + length (set (1 + k)) =
      ap (λ j. length (flat_map set (numbers_from 1 j))) (sym (add-one k))
      ∙ ap length (sets_more k)
      ∙ length-append (flat_map set (numbers_from 1 k)) (set (1 + k)) in
      let more : below number_of (1 + k) entries + named number_of (1 + k) entries ≡ below number_of (1 + suc k) entries =
      below_more number_of (1 + k) entries ∙ ap (λ j. below number_of j entries) (next k) in
      omega (arith, longer, more, length-sets k, length-set_by (1 + k) (alarm_in our_sizes t event (1 + k)))
    where
      next : (k : ℕ) → 1 + k + 1 ≡ 1 + suc k
      next k = omega arith

  -- the sets so far and the next one have at most 16 alerts
  pub room_for_set : (k : ℕ) → length (flat_map set (numbers_from 1 k)) + length (set (1 + k)) ≤ 16
  room_for_set k =
      let entries = numbers_from 1 16 in
      omega (
        arith,
        length-sets k,
        length-set_by (1 + k) (alarm_in our_sizes t event (1 + k)),
        below_more number_of (1 + k) entries,
        below_all number_of (1 + k + 1) entries,
        length-numbers_from 1 16,
      )

  -- the same at a policy number
  pub sets_next : (number : ℕ) → 1 ≤ number → flat_map set (numbers_from 1 (number + 1 - 1)) ≡ flat_map set (numbers_from 1 (number - 1)) ++ set number
  sets_next number one =
      ap (λ k. flat_map set (numbers_from 1 k)) (before number one)
      ∙ sets_more (number - 1)
      ∙ ap (λ k. flat_map set (numbers_from 1 (number - 1)) ++ set k) (behind number one)
    where
      before : (n : ℕ) → 1 ≤ n → n + 1 - 1 ≡ n - 1 + 1
      before n one = omega arith

      behind : (n : ℕ) → 1 ≤ n → 1 + (n - 1) ≡ n
      behind n one = omega arith

  pub room_next : (number : ℕ) → 1 ≤ number → length (flat_map set (numbers_from 1 (number - 1))) + length (set number) ≤ 16
  room_next number one =
      subst (λ k. length (flat_map set (numbers_from 1 (number - 1))) + length (set k) ≤ 16) (behind number one) (room_for_set (number - 1))
    where
      behind : (n : ℕ) → 1 ≤ n → 1 + (n - 1) ≡ n
      behind n one = omega arith

  pub all_sets : flat_map set (numbers_from 1 15) ≡ targets_of our_sizes t lan ports event
  unfolding targets_of
  all_sets = refl

  pub all_within : length (targets_of our_sizes t lan ports event) ≤ 16
  all_within = subst (λ l. length l ≤ 16) all_sets (omega (arith, room_for_set 15))
