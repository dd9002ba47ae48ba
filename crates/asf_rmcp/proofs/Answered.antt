-- What the rows and the layouts say of each other, for frames and for messages.
use Rattle.std.proofs.Common.{◌≡◌, ℕ, List, Option, Some, None, Result, Ok, Err, refl, sym, ap, subst, ◌∙◌, inl, inr}
use Rattle.std.specs.Prelude.{IfOk, IfErr}
use Rattle.std.specs.Result.{result_err}
use Rattle.asf_rmcp.specs.declared.fault.FrameFault.{FrameFault}
use Rattle.asf_rmcp.specs.declared.fault.FrameWhy.{FrameWhy}
use Rattle.asf_rmcp.specs.Layout.{IsPacket, IsLan}
use Rattle.asf_rmcp.specs.Refusals.{fault, packet_fault, lan_fault}
use Rattle.asf_rmcp.specs.Columns.{packet_in, lan_in}
use Rattle.asf_rmcp.specs.Laws.{IsOneAnswer}
use Rattle.asf_rmcp.proofs.Packets.{packet_sound, packet_complete}
use Rattle.asf_rmcp.proofs.Lan.{lan_sound, lan_complete}

-- where there is no fault the value is accepted, and where a value is accepted there is no fault, and it is this value
pub record Exact {A : Type 0} (refused : Option FrameFault) (value : A) (accepts : A → Type 0) : Type 0 where
  pub sound : refused ≡ None → accepts value
  pub complete : (other : A) → accepts other → (refused ≡ None) × (value ≡ other)

pub packet_exact : (octets : List ℕ) → Exact (packet_fault octets) (packet_in octets) (IsPacket octets)
packet_exact octets = record {
  sound = packet_sound octets;
  complete = λ p is. let r = packet_complete octets p is in (r.accepted, r.columns);
}

pub lan_exact : (octets : List ℕ) → Exact (lan_fault octets) (lan_in octets) (IsLan octets)
lan_exact octets = record { sound = lan_sound octets; complete = lan_complete octets }

-- what a function returned that answers this fault, and this value where there is none
pub is_value : {A : Type 0} (refused : Option FrameFault) (value : A) (accepts : A → Type 0) (r : Result A FrameFault) → Exact refused value accepts → result_err r ≡ refused → IfOk r (λ v. v ≡ value) → IfOk r accepts
is_value refused value accepts (Ok v) exact e columns = subst accepts (sym columns) (exact.sound (sym e))
is_value refused value accepts (Err f) exact e columns = tt

pub every_value : {A : Type 0} (refused : Option FrameFault) (value : A) (accepts : A → Type 0) (r : Result A FrameFault) → Exact refused value accepts → result_err r ≡ refused → IfOk r (λ v. v ≡ value) → (other : A) → accepts other → r ≡ Ok other
every_value refused value accepts (Ok v) exact e columns other is = ap Ok (columns ∙ (exact.complete other is).1)
every_value refused value accepts (Err f) exact e columns other is = let h : Some f ≡ None = e ∙ (exact.complete other is).0 in absurd (cc)

pub is_refusal : {A : Type 0} (refused : Option FrameFault) (r : Result A FrameFault) → result_err r ≡ refused → IfErr r (λ f. refused ≡ Some (fault f.at f.why))
is_refusal refused (Ok v) e = tt
is_refusal refused (Err f) e = sym e

pub every_refusal : {A : Type 0} (refused : Option FrameFault) (r : Result A FrameFault) → result_err r ≡ refused → (why : FrameWhy) (at : ℕ) → refused ≡ Some (fault at why) → r ≡ Err (fault at why)
every_refusal refused (Ok v) e why at is = let h : None ≡ Some (fault at why) = e ∙ is in absurd (cc)
every_refusal refused (Err f) e why at is = let h : Some f ≡ Some (fault at why) = e ∙ is in cc

-- one value or one refusal
pub one_answer : {A : Type 0} (refused : Option FrameFault) (value : A) (accepts : A → Type 0) → Exact refused value accepts → IsOneAnswer accepts (λ why at. refused ≡ Some (fault at why))
one_answer None value accepts exact = inl (record {
  value = value;
  accepted = exact.sound refl;
  only = λ other is. sym (exact.complete other is).1;
  not_refused = λ why at e. absurd (cc);
})
one_answer (Some f) value accepts exact = inr (record {
  why = f.why;
  at = f.at;
  refused = refl;
  only_why = λ other place e. cc;
  only_at = λ other place e. cc;
  not_accepted = λ other is. let h = (exact.complete other is).0 in absurd (cc);
})
