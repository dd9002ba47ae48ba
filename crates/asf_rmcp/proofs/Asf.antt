-- ASF messages that aren't refused have the layout of what their columns say.
use Rattle.std.proofs.Common.{◌≡◌, ◌⊎◌, ℕ, ◌+◌, ◌≤◌, false, not, ◌&&◌, List, [], ◌∷◌, length, None, refl, sym, ap, subst, ◌∙◌, inl, inr, arith}
use Rattle.std.specs.Prelude.{◌==◌, bytes_eq, slice_index, slice_range}
use Rattle.asf_rmcp.specs.Layout.{asf_enterprise, IsPing, IsPong, IsPacket}
use Rattle.asf_rmcp.specs.Refusals.{first, asf_rows, data_length}
use Rattle.asf_rmcp.specs.Columns.{asf_in}
use Rattle.asf_rmcp.proofs.Rows.{none_applies, is_long, is_equal, same_octets, is_either}
use Rattle.asf_rmcp.proofs.Lists.{Four, four, Twelve, twelve, none_left}

-- an ASF message that isn't refused, up to its data
record Message (octets : List ℕ) : Type 0 where
  kind : ℕ
  tag : ℕ
  other : ℕ
  data_octets : List ℕ
  is_kind : (kind ≡ 0x80) ⊎ (kind ≡ 0x40)
  is_data : length data_octets ≡ data_length kind
  parts : octets ≡ 0 ∷ 0 ∷ 0x11 ∷ 0xBE ∷ kind ∷ tag ∷ other ∷ data_length kind ∷ data_octets

message_of_asf : (r s : ℕ) (rest : List ℕ) → first (asf_rows (6 ∷ r ∷ s ∷ 6 ∷ rest)) ≡ None → Message rest
message_of_asf r s rest e =
    let whole_enterprise = none_applies (asf_rows (6 ∷ r ∷ s ∷ 6 ∷ rest)) e in
    let enterprise = whole_enterprise.1 in
    let whole_kind = enterprise.1 in
    let kind = whole_kind.1 in
    let whole_length = kind.1 in
    let data_octet = whole_length.1 in
    let whole_data = data_octet.1 in
    let behind = whole_data.1 in
    let header_more : length (6 ∷ r ∷ s ∷ 6 ∷ rest) ≡ 4 + length rest = omega arith in
    let eight : 8 ≤ 4 + length rest = subst (λ (n : ℕ). 8 ≤ n) header_more (is_long _ _ whole_enterprise.0) in
    let twelve : 12 ≤ 4 + length rest = subst (λ (n : ℕ). 12 ≤ n) header_more (is_long _ _ whole_length.0) in
    let f = four rest (first_four (length rest) eight) in
    let g = four f.rest (second_four (length rest) (length f.rest) f.size twelve) in
    let whole : rest ≡ f.a ∷ f.b ∷ f.c ∷ f.d ∷ g.a ∷ g.b ∷ g.c ∷ g.d ∷ g.rest = f.parts ∙ ap (λ (l : List ℕ). f.a ∷ f.b ∷ f.c ∷ f.d ∷ l) g.parts in
    let is : f.a ∷ f.b ∷ f.c ∷ f.d ∷ [] ≡ asf_enterprise =
    same_octets _ _ (subst (λ (l : List ℕ). not (bytes_eq (slice_range (6 ∷ r ∷ s ∷ 6 ∷ l) 4 8) asf_enterprise) ≡ false) whole enterprise.0) in
    let long : g.d ≡ data_length g.a =
    is_equal _ _ (subst (λ (l : List ℕ). not (slice_index (6 ∷ r ∷ s ∷ 6 ∷ l) 11 == data_length (slice_index (6 ∷ r ∷ s ∷ 6 ∷ l) 8)) ≡ false) whole data_octet.0) in
    let least : 12 + data_length g.a ≤ 4 + length rest =
    subst (λ (l : List ℕ). 12 + data_length (slice_index (6 ∷ r ∷ s ∷ 6 ∷ l) 8) ≤ 4 + length rest) whole (subst (λ (n : ℕ). 12 + data_length (slice_index (6 ∷ r ∷ s ∷ 6 ∷ rest) 8) ≤ n) header_more (is_long _ _ whole_data.0)) in
    let most : 4 + length rest ≤ 12 + data_length g.a =
    subst (λ (l : List ℕ). 4 + length rest ≤ 12 + data_length (slice_index (6 ∷ r ∷ s ∷ 6 ∷ l) 8)) whole (subst (λ (n : ℕ). n ≤ 12 + data_length (slice_index (6 ∷ r ∷ s ∷ 6 ∷ rest) 8)) header_more (is_long _ _ behind.0)) in
    record {
      kind = g.a;
      tag = g.b;
      other = g.c;
      data_octets = g.rest;
      is_kind = is_either g.a 0x80 0x40 (subst (λ (l : List ℕ). (not (slice_index (6 ∷ r ∷ s ∷ 6 ∷ l) 8 == 0x80) && not (slice_index (6 ∷ r ∷ s ∷ 6 ∷ l) 8 == 0x40)) ≡ false) whole kind.0);
      is_data = same_length (data_length g.a) (length g.rest) (length f.rest) (length rest) least most f.size g.size;
      parts = laid f.a f.b f.c f.d g.a g.b g.c g.d (data_length g.a) rest g.rest whole is long;
    }
  where
    first_four : (n : ℕ) → 8 ≤ 4 + n → 4 ≤ n
    first_four n h = omega arith

    second_four : (n m : ℕ) → n ≡ 4 + m → 12 ≤ 4 + n → 4 ≤ m
    second_four n m e h = omega arith

    same_length : (n m k l : ℕ) → 12 + n ≤ 4 + l → 4 + l ≤ 12 + n → l ≡ 4 + k → k ≡ 4 + m → m ≡ n
    same_length n m k l least most e f = omega arith

    laid : (a b c d k t x l n : ℕ) (rest m : List ℕ) → rest ≡ a ∷ b ∷ c ∷ d ∷ k ∷ t ∷ x ∷ l ∷ m → a ∷ b ∷ c ∷ d ∷ [] ≡ asf_enterprise → l ≡ n → rest ≡ 0 ∷ 0 ∷ 0x11 ∷ 0xBE ∷ k ∷ t ∷ x ∷ n ∷ m
    laid a b c d k t x l n rest m whole is long = cc

ping_sound : (r s t x : ℕ) (m : List ℕ) → length m ≡ 0 → IsPing (6 ∷ r ∷ s ∷ 6 ∷ 0 ∷ 0 ∷ 0x11 ∷ 0xBE ∷ 0x80 ∷ t ∷ x ∷ 0 ∷ m) s t
ping_sound r s t x m e =
    let empty : m ≡ [] = none_left m (omega arith) in
    record { reserved = r; other = x; parts = ap (λ (l : List ℕ). 6 ∷ r ∷ s ∷ 6 ∷ 0 ∷ 0 ∷ 0x11 ∷ 0xBE ∷ 0x80 ∷ t ∷ x ∷ 0 ∷ l) empty }

-- 16 octets of data, octet by octet
pub record Sixteen (octets : List ℕ) : Type 0 where
  pub first : Twelve octets
  pub last : Four first.third.rest
  pub parts :
      octets
      ≡ first.first.a ∷ first.first.b ∷ first.first.c ∷ first.first.d ∷ first.second.a ∷ first.second.b ∷ first.second.c ∷ first.second.d
      ∷ first.third.a ∷ first.third.b ∷ first.third.c ∷ first.third.d ∷ last.a ∷ last.b ∷ last.c ∷ last.d ∷ []

pub sixteen : (octets : List ℕ) → length octets ≡ 16 → Sixteen octets
sixteen octets e =
    let t = twelve octets (at_least (length octets) e) in
    let a = t.first in
    let b = t.second in
    let c = t.third in
    let d = four c.rest (four_left (length octets) (length c.rest) e t.size) in
    record {
      first = t;
      last = d;
      parts = t.parts ∙ ap (λ (l : List ℕ). a.a ∷ a.b ∷ a.c ∷ a.d ∷ b.a ∷ b.b ∷ b.c ∷ b.d ∷ c.a ∷ c.b ∷ c.c ∷ c.d ∷ l)
          (d.parts ∙ ap (λ (l : List ℕ). d.a ∷ d.b ∷ d.c ∷ d.d ∷ l) (none_left d.rest (nothing_left (length octets) (length c.rest) (length d.rest) e t.size d.size)));
    }
  where
    at_least : (n : ℕ) → n ≡ 16 → 12 ≤ n
    at_least n e = omega arith

    four_left : (n m : ℕ) → n ≡ 16 → n ≡ 12 + m → 4 ≤ m
    four_left n m e f = omega arith

    nothing_left : (n m k : ℕ) → n ≡ 16 → n ≡ 12 + m → m ≡ 4 + k → k ≤ 0
    nothing_left n m k e f g = omega arith

pong_sound : (r s t x : ℕ) (m : List ℕ) → length m ≡ 16 → IsPong (6 ∷ r ∷ s ∷ 6 ∷ 0 ∷ 0 ∷ 0x11 ∷ 0xBE ∷ 0x40 ∷ t ∷ x ∷ 16 ∷ m) s t (slice_index m 8)
pong_sound r s t x m e =
    let p = sixteen m e in
    let a = p.first.first in
    let b = p.first.second in
    let c = p.first.third in
    let d = p.last in
    let P : List ℕ → Type 0 = λ l. IsPong (6 ∷ r ∷ s ∷ 6 ∷ 0 ∷ 0 ∷ 0x11 ∷ 0xBE ∷ 0x40 ∷ t ∷ x ∷ 16 ∷ l) s t (slice_index l 8) in
    subst P (sym p.parts) (record {
      reserved = r;
      other = x;
      before = a.a ∷ a.b ∷ a.c ∷ a.d ∷ b.a ∷ b.b ∷ b.c ∷ b.d ∷ [];
      behind = c.b ∷ c.c ∷ c.d ∷ d.a ∷ d.b ∷ d.c ∷ d.d ∷ [];
      eight = refl;
      seven = refl;
      parts = refl;
    })

pub asf_sound : (r s : ℕ) (rest : List ℕ) → first (asf_rows (6 ∷ r ∷ s ∷ 6 ∷ rest)) ≡ None → IsPacket (6 ∷ r ∷ s ∷ 6 ∷ rest) (asf_in (6 ∷ r ∷ s ∷ 6 ∷ rest))
asf_sound r s rest e =
    let m = message_of_asf r s rest e in
    let P : List ℕ → Type 0 = λ l. IsPacket (6 ∷ r ∷ s ∷ 6 ∷ l) (asf_in (6 ∷ r ∷ s ∷ 6 ∷ l)) in
    subst P (sym m.parts) (kinds m.kind m.tag m.other m.data_octets m.is_kind m.is_data)
  where
    kinds : (k t x : ℕ) (m : List ℕ) → (k ≡ 0x80) ⊎ (k ≡ 0x40) → length m ≡ data_length k → IsPacket (6 ∷ r ∷ s ∷ 6 ∷ 0 ∷ 0 ∷ 0x11 ∷ 0xBE ∷ k ∷ t ∷ x ∷ data_length k ∷ m) (asf_in (6 ∷ r ∷ s ∷ 6 ∷ 0 ∷ 0 ∷ 0x11 ∷ 0xBE ∷ k ∷ t ∷ x ∷ data_length k ∷ m))
    kinds k t x m (inl is) long =
        let Q : ℕ → Type 0 = λ k. length m ≡ data_length k → IsPacket (6 ∷ r ∷ s ∷ 6 ∷ 0 ∷ 0 ∷ 0x11 ∷ 0xBE ∷ k ∷ t ∷ x ∷ data_length k ∷ m) (asf_in (6 ∷ r ∷ s ∷ 6 ∷ 0 ∷ 0 ∷ 0x11 ∷ 0xBE ∷ k ∷ t ∷ x ∷ data_length k ∷ m)) in
        subst Q (sym is) (λ e. ping_sound r s t x m e) long
    kinds k t x m (inr is) long =
        let Q : ℕ → Type 0 = λ k. length m ≡ data_length k → IsPacket (6 ∷ r ∷ s ∷ 6 ∷ 0 ∷ 0 ∷ 0x11 ∷ 0xBE ∷ k ∷ t ∷ x ∷ data_length k ∷ m) (asf_in (6 ∷ r ∷ s ∷ 6 ∷ 0 ∷ 0 ∷ 0x11 ∷ 0xBE ∷ k ∷ t ∷ x ∷ data_length k ∷ m)) in
        subst Q (sym is) (λ e. pong_sound r s t x m e) long
