-- What the reader of traps answers is what a trap says.
use Rattle.std.proofs.Common.{◌≡◌, ℕ, List, [], ◌∷◌, None, ap, inl, inr}
use Rattle.snmp_trap.specs.declared.refusal.Refusal.{Refusal}
use Rattle.snmp_trap.specs.Grammar.{Seen, Binding, IsBody, IsBodyOf, IsTrap}
use Rattle.snmp_trap.specs.Refusals.{RefusedTrap}
use Rattle.snmp_trap.proofs.Message.{read_exact}
use Rattle.pet_body.specs.Layout.{body_in}
use Rattle.pef_words.specs.Said.{said_by, said_of_body, said_of_trap}

counted_body : (bindings : List Binding) (body : List ℕ) → IsBodyOf bindings body → IsBody body
counted_body [] body is = absurd is
counted_body (b ∷ bindings) body is = elim is [ inl here ↦ here.3 | inr later ↦ counted_body bindings body later.1 ]

-- the body of a trap has 46 to 110 octets
pub has_body : (octets : List ℕ) (v : Seen) → IsTrap octets v → IsBody v.body
has_body octets v is = counted_body is.trap_part.bindings v.body is.trap_part.is_body

pub says : (octets : List ℕ) (v : Seen) → IsTrap octets v → said_of_trap octets ≡ said_of_body v.specific (body_in v.body)
says octets v is = ap said_by ((read_exact octets).again v is)

pub says_nothing : (octets : List ℕ) (r : Refusal) → RefusedTrap octets r.why r.at → said_of_trap octets ≡ None
says_nothing octets r is = ap said_by ((read_exact octets).no r is)
