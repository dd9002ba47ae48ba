-- Frames: what isn't refused has the layout of what its columns say, and what has a layout isn't refused.
use Rattle.std.proofs.Common.{◌≡◌, ℕ, suc, ◌+◌, ◌%◌, ◌≤◌, true, false, not, ◌&&◌, List, [], ◌∷◌, ◌++◌, length, Some, None, append-nil, length-append, refl, sym, ap, subst, ◌∙◌, inl, inr, arith}
use Rattle.std.specs.Prelude.{nat_lt, ◌==◌, slice_index, if◌then◌else◌}
use Rattle.std.specs.Option.{option_or}
use Rattle.std.proofs.lemmas.List.{get_or_at}
use Rattle.std.proofs.lemmas.Bool.{ltb-false, lt-ltb}
use Rattle.std.proofs.lemmas.Bool.Decides.{nat_tests}
use Rattle.asf_rmcp.specs.declared.packet.Packet.{Packet}
use Rattle.asf_rmcp.specs.declared.packet.Packet.TheVariants.{Ack, Ping, Pong, Ipmi}
use Rattle.asf_rmcp.specs.declared.fault.FrameWhy.TheVariants.{Class}
use Rattle.asf_rmcp.specs.Layout.{IsClass, IsAck, IsPacket}
use Rattle.asf_rmcp.specs.Refusals.{first, header_rows, ack_rows, asf_rows, class_rows, packet_fault, fault}
use Rattle.asf_rmcp.specs.Columns.{asf_in, packet_in}
use Rattle.asf_rmcp.proofs.Rows.{none_applies, both_pass, either, is_long, not_below, is_equal, is_either}
use Rattle.asf_rmcp.proofs.Lists.{four, none_left}
use Rattle.asf_rmcp.proofs.Asf.{sixteen, asf_sound}

-- ---- what isn't refused

-- a header that isn't refused
pub record Header (octets : List ℕ) : Type 0 where
  pub reserved : ℕ
  pub sequence : ℕ
  pub class_octet : ℕ
  pub rest : List ℕ
  pub is_class : IsClass (class_octet % 128)
  pub parts : octets ≡ 6 ∷ reserved ∷ sequence ∷ class_octet ∷ rest

pub header_of : (octets : List ℕ) → first (header_rows octets) ≡ None → Header octets
header_of octets e =
    let one = none_applies (header_rows octets) e in
    let version = one.1 in
    let whole = version.1 in
    let class = whole.1 in
    let f = four octets (is_long _ _ whole.0) in
    let is : f.a ≡ 6 = is_equal _ _ (subst (λ (l : List ℕ). not (slice_index l 0 == 6) ≡ false) f.parts version.0) in
    record {
      reserved = f.b;
      sequence = f.c;
      class_octet = f.d;
      rest = f.rest;
      is_class = subst (λ (l : List ℕ). IsClass (slice_index l 3 % 128)) f.parts (is_either _ 6 7 class.0);
      parts = f.parts ∙ ap (λ (a : ℕ). a ∷ f.b ∷ f.c ∷ f.d ∷ f.rest) is;
    }

ack_sound : (r s c : ℕ) (rest : List ℕ) → IsClass (c % 128) → 128 ≤ c → first (ack_rows (6 ∷ r ∷ s ∷ c ∷ rest)) ≡ None → IsAck (6 ∷ r ∷ s ∷ c ∷ rest) s (c % 128)
ack_sound r s c rest class high e =
    let most : length (6 ∷ r ∷ s ∷ c ∷ rest) ≤ 4 = is_long _ _ (none_applies (ack_rows (6 ∷ r ∷ s ∷ c ∷ rest)) e).0 in
    let empty : rest ≡ [] = none_left rest (omega arith) in
    record { is_class = class; reserved = r; class_octet = c; bit_7 = high; low_bits = refl; parts = ap (λ (l : List ℕ). 6 ∷ r ∷ s ∷ c ∷ l) empty }

-- by the class octet: bit 7, then the classes
class_sound : (r s c : ℕ) (rest : List ℕ) → IsClass (c % 128) → first (class_rows (6 ∷ r ∷ s ∷ c ∷ rest)) ≡ None → IsPacket (6 ∷ r ∷ s ∷ c ∷ rest) (packet_in (6 ∷ r ∷ s ∷ c ∷ rest))
class_sound r s c rest class e =
    elim (either (nat_lt 127 c)) [
      | inl high ↦ rw high (ack_sound r s c rest class (bit_7 c high) (rw high at e))
      | inr low ↦ rw low (classes c (is_7 c low class) (rw low at e))
    ]
  where
    bit_7 : (c : ℕ) → nat_lt 127 c ≡ true → 128 ≤ c
    bit_7 c e = grind (arith, nat_tests)

    is_7 : (c : ℕ) → nat_lt 127 c ≡ false → IsClass (c % 128) → IsClass c
    is_7 c low (inl e) = let h = ltb-false 127 c low in inl (omega arith)
    is_7 c low (inr e) = let h = ltb-false 127 c low in inr (omega arith)

    classes : (c : ℕ) → IsClass c → first (if c == 7 then [] else asf_rows (6 ∷ r ∷ s ∷ c ∷ rest)) ≡ None → IsPacket (6 ∷ r ∷ s ∷ c ∷ rest) (if c == 7 then Ipmi s else asf_in (6 ∷ r ∷ s ∷ c ∷ rest))
    classes c (inl is) h =
        let Q : ℕ → Type 0 = λ c. first (if c == 7 then [] else asf_rows (6 ∷ r ∷ s ∷ c ∷ rest)) ≡ None → IsPacket (6 ∷ r ∷ s ∷ c ∷ rest) (if c == 7 then Ipmi s else asf_in (6 ∷ r ∷ s ∷ c ∷ rest)) in
        subst Q (sym is) (λ g. asf_sound r s rest g) h
    classes c (inr is) h =
        let Q : ℕ → Type 0 = λ c. IsPacket (6 ∷ r ∷ s ∷ c ∷ rest) (if c == 7 then Ipmi s else asf_in (6 ∷ r ∷ s ∷ c ∷ rest)) in
        subst Q (sym is) (record { reserved = r; message = rest; parts = ap (λ (l : List ℕ). 6 ∷ r ∷ s ∷ 7 ∷ l) (sym (append-nil rest)) })

pub packet_sound : (octets : List ℕ) → packet_fault octets ≡ None → IsPacket octets (packet_in octets)
packet_sound octets e =
    let both = both_pass _ _ e in
    let h = header_of octets both.0 in
    let P : List ℕ → Type 0 = λ l. IsPacket l (packet_in l) in
    subst P (sym h.parts) (class_sound h.reserved h.sequence h.class_octet h.rest h.is_class (subst (λ (l : List ℕ). first (class_rows l) ≡ None) h.parts both.1))

-- ---- what has a layout

-- a frame is read as this and isn't refused
pub record Reads (octets : List ℕ) (packet : Packet) : Type 0 where
  pub accepted : packet_fault octets ≡ None
  pub columns : packet_in octets ≡ packet

ack_complete : (r s c class : ℕ) → IsClass class → 128 ≤ c → c % 128 ≡ class → Reads (6 ∷ r ∷ s ∷ c ∷ []) (Ack s class)
ack_complete r s c class is high low =
    let h : nat_lt 127 c ≡ true = lt-ltb 127 c (omega arith) in
    record { accepted = rw (h, low) (classes class is); columns = rw (h, low) refl }
  where
    classes : (class : ℕ) → IsClass class → option_or (if (not (class == 6) && not (class == 7)) then Some (fault 3 Class) else None) None ≡ None
    classes class (inl e) = rw e refl
    classes class (inr e) = rw e refl

ipmi_complete : (r s : ℕ) (message : List ℕ) → Reads (6 ∷ r ∷ s ∷ 7 ∷ message) (Ipmi s)
ipmi_complete r s message =
    let one : nat_lt (length (6 ∷ r ∷ s ∷ 7 ∷ message)) 1 ≡ false = not_below _ _ (omega arith) in
    let four_octets : nat_lt (length (6 ∷ r ∷ s ∷ 7 ∷ message)) 4 ≡ false = not_below _ _ (omega arith) in
    record { accepted = rw (one, four_octets) refl; columns = refl }

pong_read : (r s t x : ℕ) (m : List ℕ) → length m ≡ 16 → Reads (6 ∷ r ∷ s ∷ 6 ∷ 0 ∷ 0 ∷ 0x11 ∷ 0xBE ∷ 0x40 ∷ t ∷ x ∷ 16 ∷ m) (Pong s t (slice_index m 8))
pong_read r s t x m e =
    let P : List ℕ → Type 0 = λ l. Reads (6 ∷ r ∷ s ∷ 6 ∷ 0 ∷ 0 ∷ 0x11 ∷ 0xBE ∷ 0x40 ∷ t ∷ x ∷ 16 ∷ l) (Pong s t (slice_index l 8)) in
    subst P (sym (sixteen m e).parts) (record { accepted = refl; columns = refl })

pong_complete : (r s t x entities : ℕ) (before behind : List ℕ) → length before ≡ 8 → length behind ≡ 7
    → Reads (6 ∷ r ∷ s ∷ 6 ∷ 0 ∷ 0 ∷ 0x11 ∷ 0xBE ∷ 0x40 ∷ t ∷ x ∷ 16 ∷ (before ++ entities ∷ (behind ++ []))) (Pong s t entities)
pong_complete r s t x entities before behind eight seven =
    let data_octets : List ℕ = before ++ entities ∷ (behind ++ []) in
    let long : length data_octets ≡ 16 = length-append before (entities ∷ (behind ++ [])) ∙ total (length before) (length (behind ++ [])) eight (ap length (append-nil behind) ∙ seven) in
    subst (λ (n : ℕ). Reads (6 ∷ r ∷ s ∷ 6 ∷ 0 ∷ 0 ∷ 0x11 ∷ 0xBE ∷ 0x40 ∷ t ∷ x ∷ 16 ∷ data_octets) (Pong s t n)) (get_or_at before entities (behind ++ []) 0 8 eight) (pong_read r s t x data_octets long)
  where
    total : (a b : ℕ) → a ≡ 8 → b ≡ 7 → a + suc b ≡ 16
    total a b e f = omega arith

pub packet_complete : (octets : List ℕ) (packet : Packet) → IsPacket octets packet → Reads octets packet
packet_complete octets (Ack s class) is = subst (λ (l : List ℕ). Reads l (Ack s class)) (sym is.parts) (ack_complete is.reserved s is.class_octet class is.is_class is.bit_7 is.low_bits)
packet_complete octets (Ping s t) is = subst (λ (l : List ℕ). Reads l (Ping s t)) (sym is.parts) (record { accepted = refl; columns = refl })
packet_complete octets (Pong s t entities) is =
    subst (λ (l : List ℕ). Reads l (Pong s t entities)) (sym is.parts) (pong_complete is.reserved s t is.other entities is.before is.behind is.eight is.seven)
packet_complete octets (Ipmi s) is =
    subst (λ (l : List ℕ). Reads l (Ipmi s)) (sym is.parts) (ipmi_complete is.reserved s (is.message ++ []))
