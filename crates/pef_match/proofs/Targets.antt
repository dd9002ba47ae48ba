-- One alert, from its policy entry and its destination.
use Rattle.std.proofs.Common.{◌≡◌, ℕ, ◌-◌, ◌≤◌, ◌&&◌, Bool, true, false, cond, List, [], ◌∷◌, Option, Some, None, ◌∙◌, ap, sym, subst, eqb, leb, length, slice_get, arith}
use Rattle.std.proofs.Math.Path.{fun_ext}
use Rattle.std.proofs.lemmas.Bool.Decides.{nat_tests}
use Rattle.std.proofs.lemmas.Option.{get_or_from_slice_get}
use Rattle.event_record.specs.Fields.{octet}
use Rattle.filter_table.specs.Filters.{numbered}
use Rattle.lan_dest.specs.declared.destination.Destination.{Destination}
use Rattle.lan_dest.specs.declared.destination.Ports.{Ports}
use Rattle.lan_dest.specs.Parameters.{Tables as LanTables}
use Rattle.lan_dest.specs.Usable.{CanBeTried, destination_at}
use Rattle.pef_config.specs.Places.{Tables, Actions, Policy, filter_at, our_sizes}
use Rattle.pef_config.proofs.Numbered.{numbered-one_on}
use Rattle.policy_table.specs.Entry.{bits, octet as entry_octet, policy, policy_number, channel, destination, string_key}
use Rattle.policy_walk.specs.declared.stop.Stop.{Stop}
use Rattle.policy_walk.specs.Stops.{stop_of}
use Rattle.pef_match.specs.declared.alarm.Alarm.{Alarm}
use Rattle.pef_match.specs.declared.target.Target.{Target}
use Rattle.pef_match.specs.Alerts.{alarm, alarm_in, is_in_set, target_to, target_of}
use Rattle.pef_match.specs.Parts.{CanBeSent}
use Rattle.pef_match.specs.Texts.{alert_text}

pub alarm_same : (t : Tables) (filters : List (List ℕ)) (mask : ℕ) (event : List ℕ) (number : ℕ) → length filters ≡ 16
    → ((n : ℕ) → numbered filters n ≡ filter_at t n) → t Actions ≡ mask ∷ []
    → alarm (length filters) (numbered filters) mask event number ≡ alarm_in our_sizes t event number
unfolding alarm_in
alarm_same t filters mask event number sixteen each masked =
    ap (λ count. alarm count (numbered filters) mask event number) sixteen
    ∙ ap (λ f. alarm 16 f mask event number) (fun_ext each)
    ∙ ap (λ o. alarm 16 (filter_at t) (octet 1 o) event number) (sym masked)

pub entry_is : (entries : List (List ℕ)) (n : ℕ) (e : List ℕ) → 1 ≤ n → slice_get entries (n - 1) ≡ Some e → numbered entries n ≡ e
entry_is entries n e one is = numbered-one_on entries n one ∙ get_or_from_slice_get entries (n - 1) e [] is

third : (a b : Bool) (p : ℕ) → (a && b && leb p 4) ≡ true → p ≤ 4
third true true p holds = grind (arith, nat_tests, holds)
third true false p holds = absurd (cc holds)
third false b p holds = absurd (cc holds)

pub policy_known : (number : ℕ) (e : List ℕ) → is_in_set number e ≡ true → policy e ≤ 4
policy_known number e holds = third (eqb (policy_number e) number) (eqb (bits 3 3 (entry_octet 1 e)) 1) (policy e) holds

pub can_be_sent : (number : ℕ) (e : List ℕ) → is_in_set number e ≡ true → (target : Target) → target.stop ≡ stop_of e target.to.kind → CanBeTried target.to
    → CanBeSent target
can_be_sent number e member target stop_is to = record {
  known = subst (λ p. p ≤ 4) (sym (ap (λ s. s.policy) stop_is)) (policy_known number e member);
  to = to;
}

module _ (t : Tables) (lan : LanTables) (ports : Ports) (alarm : Alarm) (number n : ℕ) (e : List ℕ) where
  -- the alert to what is found for the entry
  pub target_found : t (Policy n) ≡ e → is_in_set number e ≡ true → (found : Option Destination)
      → found ≡ destination_at ports lan (channel e) (destination e)
      → target_to our_sizes t lan ports alarm n e found
      ≡ cond (is_in_set number (t (Policy n))) (target_of our_sizes t lan ports alarm n (t (Policy n))) None
  target_found same member found is =
      ap (target_to our_sizes t lan ports alarm n e) is
      ∙ sym (ap (λ b. cond b (target_of our_sizes t lan ports alarm n e) None) member)
      ∙ ap (λ x. cond (is_in_set number x) (target_of our_sizes t lan ports alarm n x) None) (sym same)

  pub target_made : (to : Destination) (own : ℕ) (stop : Stop) (key : ℕ) (text : List ℕ) → own ≡ policy_number e → stop ≡ stop_of e to.kind
      → key ≡ string_key e → text ≡ alert_text our_sizes t key alarm.filter
      → Some (record { policy_number = own; entry = n; stop = stop; to = to; severity = alarm.severity; text = text })
      ≡ target_to our_sizes t lan ports alarm n e (Some to)
  target_made to own stop key text own_is stop_is key_is text_is =
      ap (λ o. Some (record { policy_number = o; entry = n; stop = stop; to = to; severity = alarm.severity; text = text })) own_is
      ∙ ap (λ s. Some (record { policy_number = policy_number e; entry = n; stop = s; to = to; severity = alarm.severity; text = text })) stop_is
      ∙ ap (λ x. Some (record { policy_number = policy_number e; entry = n; stop = stop_of e to.kind; to = to; severity = alarm.severity; text = x }))
      (text_is ∙ ap (λ k. alert_text our_sizes t k alarm.filter) key_is)
