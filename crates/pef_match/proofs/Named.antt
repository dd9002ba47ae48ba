-- Each alert of a job is one that an enabled entry names.
use Rattle.std.proofs.Common.{◌≡◌, ℕ, ◌&&◌, Bool, true, false, cond, eqb, leb, eqb-true, List, [], ◌∷◌, ◌++◌, Option, Some, None, refl, sym, ◌∙◌, ap, subst, filter_map, flat_map}
use Rattle.std.specs.List.{AllByRecursion, cons_option}
use Rattle.lan_dest.specs.declared.destination.Destination.{Destination}
use Rattle.lan_dest.specs.declared.destination.Ports.{Ports}
use Rattle.lan_dest.specs.Parameters.{Tables as LanTables}
use Rattle.lan_dest.specs.Usable.{destination_at}
use Rattle.pef_config.specs.Places.{Sizes, Tables, Policy}
use Rattle.policy_table.specs.Entry.{bits, octet, policy_number, policy, channel, destination}
use Rattle.pef_match.specs.declared.alarm.Alarm.{Alarm}
use Rattle.pef_match.specs.declared.target.Target.{Target}
use Rattle.pef_match.specs.Alerts.{alarm_in, is_in_set, target_to, target_of, set_by, set_of, targets_of}
use Rattle.pef_match.specs.Numbers.{numbers_from}
use Rattle.pef_match.specs.Promises.{IsNamed}

first_holds : (k n : ℕ) (b c : Bool) → (eqb k n && b && c) ≡ true → k ≡ n
first_holds k n b c holds = by (eqb k n) refl holds
  where
    by : (t : Bool) → eqb k n ≡ t → (t && b && c) ≡ true → k ≡ n
    by true is all = eqb-true k n is
    by false is all = absurd (cc all)

its_number : (number : ℕ) (e : List ℕ) → is_in_set number e ≡ true → policy_number e ≡ number
its_number number e holds = first_holds (policy_number e) number (eqb (bits 3 3 (octet 1 e)) 1) (leb (policy e) 4) holds

module _ (sizes : Sizes) (tables : Tables) (lan : LanTables) (ports : Ports) (event : List ℕ) where
  abbrev Named : Target → Type 0
  Named target = IsNamed sizes tables lan ports event target

  both : (xs ys : List Target) → AllByRecursion Named xs → AllByRecursion Named ys → AllByRecursion Named (xs ++ ys)
  both [] ys all others = others
  both (x ∷ xs) ys all others = (all.0, both xs ys all.1 others)

  same_named : (one other : Target) → Some one ≡ Some other → Named one → Named other
  same_named one other is named = let same : one ≡ other = cc is in subst Named same named

  found : (alarm : Alarm) (number : ℕ) → alarm_in sizes tables event number ≡ Some alarm → (n : ℕ) → is_in_set number (tables (Policy n)) ≡ true
      → (to : Option Destination) → destination_at ports lan (channel (tables (Policy n))) (destination (tables (Policy n))) ≡ to
      → (target : Target) → target_to sizes tables lan ports alarm n (tables (Policy n)) to ≡ Some target → Named target
  found alarm number asked n member None is target some = absurd (cc some)
  found alarm number asked n member (Some to) is target some =
      let number_is = its_number number (tables (Policy n)) member in
      same_named _ target some (record {
        alarm = alarm;
        asked = ap (alarm_in sizes tables event) number_is ∙ asked;
        enabled = subst (λ k. is_in_set k (tables (Policy n)) ≡ true) (sym number_is) member;
        to = is;
      })

  one_more : (o : Option Target) (targets : List Target) → ((target : Target) → o ≡ Some target → Named target) → AllByRecursion Named targets → AllByRecursion Named (cons_option o targets)
  one_more None targets named all = all
  one_more (Some target) targets named all = (named target refl, all)

  entries : (alarm : Alarm) (number : ℕ) → alarm_in sizes tables event number ≡ Some alarm → (numbers : List ℕ)
      → AllByRecursion Named (filter_map (λ n. cond (is_in_set number (tables (Policy n))) (target_of sizes tables lan ports alarm n (tables (Policy n))) None) numbers)
  entries alarm number asked [] = tt
  entries alarm number asked (n ∷ numbers) =
      one_more (cond (is_in_set number (tables (Policy n))) (target_of sizes tables lan ports alarm n (tables (Policy n))) None) _
      (λ target is. of_entry (is_in_set number (tables (Policy n))) refl target is) (entries alarm number asked numbers)
    where
      of_entry : (b : Bool) → is_in_set number (tables (Policy n)) ≡ b → (target : Target) → cond b (target_of sizes tables lan ports alarm n (tables (Policy n))) None ≡ Some target → Named target
      of_entry true member target is = found alarm number asked n member (destination_at ports lan (channel (tables (Policy n))) (destination (tables (Policy n)))) refl target is
      of_entry false other target is = absurd (cc is)

  set_named : (number : ℕ) (alarm : Option Alarm) → alarm_in sizes tables event number ≡ alarm → AllByRecursion Named (set_by sizes tables lan ports number alarm)
  unfolding set_by
  set_named number None is = tt
  set_named number (Some alarm) is = entries alarm number is (numbers_from 1 sizes.policies)

  sets_named : (numbers : List ℕ) → AllByRecursion Named (flat_map (set_of sizes tables lan ports event) numbers)
  sets_named [] = tt
  sets_named (number ∷ numbers) = both (set_of sizes tables lan ports event number) (flat_map (set_of sizes tables lan ports event) numbers) (set_named number (alarm_in sizes tables event number) refl) (sets_named numbers)

pub all_named : (sizes : Sizes) (tables : Tables) (lan : LanTables) (ports : Ports) (event : List ℕ) → AllByRecursion (λ target. IsNamed sizes tables lan ports event target) (targets_of sizes tables lan ports event)
unfolding targets_of
all_named sizes tables lan ports event = sets_named sizes tables lan ports event (numbers_from 1 15)
