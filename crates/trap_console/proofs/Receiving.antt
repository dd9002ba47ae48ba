-- What the reader of traps answers is what a datagram says.
use Rattle.std.proofs.Common.{◌≡◌, ℕ, List, [], ◌∷◌, Result, Ok, Err, sym, ap, ◌∙◌, subst, inl, inr}
use Rattle.board_core.specs.declared.step.Address.{Address}
use Rattle.snmp_trap.specs.declared.refusal.Refusal.{Refusal}
use Rattle.snmp_trap.specs.Grammar.{Seen, Binding, IsBody, IsBodyOf, IsTrap}
use Rattle.snmp_trap.specs.Refusals.{refusal, RefusedTrap}
use Rattle.snmp_trap.specs.Reading.{read}
use Rattle.snmp_trap.proofs.Results.{either}
use Rattle.snmp_trap.proofs.Message.{read_exact}
use Rattle.trap_console.specs.declared.row.Row.{Row}
use Rattle.trap_console.specs.Received.{row_by, received_by, received, ReceivesTraps}

counted_body : (bindings : List Binding) (body : List ℕ) → IsBodyOf bindings body → IsBody body
counted_body [] body is = absurd is
counted_body (b ∷ bindings) body is = elim is [ inl here ↦ here.3 | inr later ↦ counted_body bindings body later.1 ]

-- the body of a trap has 46 to 110 octets
pub has_body : (octets : List ℕ) (v : Seen) → IsTrap octets v → IsBody v.body
has_body octets v is = counted_body is.trap_part.bindings v.body is.trap_part.is_body

pub receives : (from : Address) (octets : List ℕ) (v : Seen) → IsTrap octets v → received from octets ≡ Ok (row_by from v)
receives from octets v is = ap (received_by from) ((read_exact octets).again v is)

pub refuses : (from : Address) (octets : List ℕ) (r : Refusal) → RefusedTrap octets r.why r.at → received from octets ≡ Err r
refuses from octets r is = ap (received_by from) ((read_exact octets).no r is)

abbrev taken : Row → Result Row Refusal
taken row = Ok row

abbrev not_taken : Refusal → Result Row Refusal
not_taken r = Err r

row_is : (a b : Row) → taken a ≡ taken b → a ≡ b
row_is a b e = cc

refusal_is : (a b : Refusal) → not_taken a ≡ not_taken b → a ≡ b
refusal_is a b e = cc

never_both : (a : Row) (b : Refusal) → taken a ≡ not_taken b → ⊥
never_both a b e = cc

pub received_means : (from : Address) (octets : List ℕ) → ReceivesTraps from octets (received from octets)
received_means from octets =
    let exact = read_exact octets in
    elim (either (read octets)) [
      | inl v ↦ record {
        trap = λ other is. receives from octets other is;
        only = λ row is. (v.0, exact.ok v.0 v.1, row_is row (row_by from v.0) (sym is ∙ ap (received_by from) v.1));
        refused = λ why at. (
          λ is. refuses from octets (refusal at why) is,
          λ is. absurd (never_both (row_by from v.0) (refusal at why) (sym (ap (received_by from) v.1) ∙ is)),
        );
      }
      | inr r ↦ record {
        trap = λ other is. receives from octets other is;
        only = λ row is. absurd (never_both row r.0 (sym is ∙ ap (received_by from) r.1));
        refused = λ why at. (
          λ is. refuses from octets (refusal at why) is,
          λ is. subst (λ (x : Refusal). RefusedTrap octets x.why x.at) (refusal_is r.0 (refusal at why) (sym (ap (received_by from) r.1) ∙ is)) (exact.err r.0 r.1),
        );
      }
    ]
