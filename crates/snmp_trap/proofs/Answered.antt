-- What the grammar and the refusals say of each other.
use Rattle.std.proofs.Common.{◌≡◌, ◌⊎◌, ℕ, List, [], ◌++◌, Result, Ok, Err, refl, sym, ap, ◌∙◌, inl, inr, append-nil}
use Rattle.std.specs.Prelude.{IfOk, IfErr, IsOkAnd, IsErrAnd}
use Rattle.snmp_trap.specs.declared.refusal.Refusal.{Refusal}
use Rattle.snmp_trap.specs.declared.refusal.Why.{Why}
use Rattle.snmp_trap.specs.declared.trap.TrapView.{TrapView}
use Rattle.snmp_trap.specs.Grammar.{Seen, IsTrap}
use Rattle.snmp_trap.specs.Refusals.{refusal, RefusedTrap}
use Rattle.snmp_trap.specs.Laws.{IsOneTrap, IsOneRefusal, IsNoPrefix}
use Rattle.snmp_trap.specs.Reading.{Gives, read, seen}
use Rattle.snmp_trap.proofs.Results.{ok_is, err_is, ok-err, either}
use Rattle.snmp_trap.proofs.Fronts.{front_of, same_front}
use Rattle.snmp_trap.proofs.Message.{read_exact}

pub is_view : (octets : List ℕ) (r : Result TrapView Refusal) → Gives seen r (read octets) → IfOk r (λ v. IsTrap octets (seen v))
is_view octets (Ok v) given = (read_exact octets).ok (seen v) given
is_view octets (Err d) given = tt

pub every_view : (octets : List ℕ) (r : Result TrapView Refusal) → Gives seen r (read octets) → (v : Seen) → IsTrap octets v → IsOkAnd r (λ w. seen w ≡ v)
every_view octets (Ok w) given v is = ok_is _ _ (sym given ∙ (read_exact octets).again v is)
every_view octets (Err d) given v is = absurd (ok-err v d (sym ((read_exact octets).again v is) ∙ given))

pub is_refusal : (octets : List ℕ) (r : Result TrapView Refusal) → Gives seen r (read octets) → IfErr r (λ d. RefusedTrap octets d.why d.at)
is_refusal octets (Ok v) given = tt
is_refusal octets (Err d) given = (read_exact octets).err d given

pub every_refusal : (octets : List ℕ) (r : Result TrapView Refusal) → Gives seen r (read octets) → (why : Why) (at : ℕ) → RefusedTrap octets why at → IsErrAnd r (λ d. d ≡ refusal at why)
every_refusal octets (Ok w) given why at is = absurd (ok-err (seen w) (refusal at why) (sym given ∙ (read_exact octets).no (refusal at why) is))
every_refusal octets (Err d) given why at is = err_is _ _ (sym given ∙ (read_exact octets).no (refusal at why) is)

pub answers : (octets : List ℕ) → IsOneTrap octets ⊎ IsOneRefusal octets
answers octets =
    let exact = read_exact octets in
    elim (either (read octets)) [
      | inl v ↦ inl (record {
        view = v.0;
        is_trap = exact.ok v.0 v.1;
        only = λ other is. sym (ok_is v.0 other (sym v.1 ∙ exact.again other is));
        not_refused = λ why at is. ok-err v.0 (refusal at why) (sym v.1 ∙ exact.no (refusal at why) is);
      })
      | inr r ↦ inr (record {
        why = r.0.why;
        at = r.0.at;
        refused = exact.err r.0 r.1;
        only_why = λ other place is. ap (λ (d : Refusal). d.why) (err_is (refusal place other) r.0 (sym (exact.no (refusal place other) is) ∙ r.1));
        only_at = λ other place is. ap (λ (d : Refusal). d.at) (err_is (refusal place other) r.0 (sym (exact.no (refusal place other) is) ∙ r.1));
        no_trap = λ view is. ok-err view r.0 (sym (exact.again view is) ∙ r.1);
      })
    ]

pub ends_here : (octets rest : List ℕ) → IsNoPrefix octets rest
ends_here octets rest v w first whole =
    let short = front_of octets 48 (first.version ++ (first.community ++ first.trap)) rest (octets ++ rest) first.is_message refl in
    let long = front_of (octets ++ rest) 48 (whole.version ++ (whole.community ++ whole.trap)) [] (octets ++ rest) whole.is_message (sym (append-nil (octets ++ rest))) in
    (same_front (octets ++ rest) short long).rest
