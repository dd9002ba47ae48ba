-- The frames of LAN messages: what isn't refused has the layout of what its columns say, and what has it isn't refused.
use Rattle.std.proofs.Common.{◌≡◌, ℕ, suc, ◌+◌, ◌-◌, ◌≤◌, false, List, [], ◌∷◌, ◌++◌, length, take, drop, replicate, None, refl, sym, ap, subst, ◌∙◌, arith, append-nil, length-append}
use Rattle.std.specs.Prelude.{nat_lt, slice_index}
use Rattle.std.proofs.lemmas.List.{take_at, take-append-drop, length-take-le, length-drop}
use Rattle.asf_rmcp.specs.declared.message.LanMessage.{LanMessage}
use Rattle.asf_rmcp.specs.Layout.{IsLan}
use Rattle.asf_rmcp.specs.Refusals.{first, header_rows, lan_rows, message_of, message_rows, lan_fault}
use Rattle.asf_rmcp.specs.Columns.{message_in, lan_in}
use Rattle.asf_rmcp.proofs.Rows.{none_applies, both_pass, is_long, not_below, is_equal, same_octets, within}
use Rattle.asf_rmcp.proofs.Lists.{twelve}
use Rattle.asf_rmcp.proofs.Packets.{header_of}
use Rattle.asf_rmcp.proofs.Messages.{found, message_sound, message_complete}

-- a header and a session's octets that aren't refused, the message's length, and what follows
abbrev carrier : ℕ → ℕ → ℕ → List ℕ → List ℕ
carrier reserved sequence n rest = 6 ∷ reserved ∷ sequence ∷ 7 ∷ 0 ∷ 0 ∷ 0 ∷ 0 ∷ 0 ∷ 0 ∷ 0 ∷ 0 ∷ 0 ∷ n ∷ rest

record Carried (octets : List ℕ) : Type 0 where
  reserved : ℕ
  sequence : ℕ
  n : ℕ
  rest : List ℕ
  least : 7 ≤ n
  most : n ≤ 71
  whole : n ≤ length rest
  pads : length rest ≤ n + 1
  parts : octets ≡ carrier reserved sequence n rest

carried_sound : (r s n : ℕ) (rest : List ℕ) → 7 ≤ n → n ≤ 71 → n ≤ length rest → length rest ≤ n + 1 → first (message_rows (take n rest)) ≡ None → IsLan (carrier r s n rest) (message_in (take n rest))
carried_sound r s n rest least most whole pads e =
    let size : length (take n rest) ≡ n = length-take-le n rest whole in
    record {
      reserved = r;
      sequence = s;
      carried = take n rest;
      pad = drop n rest;
      is_message = message_sound (take n rest) (subst (λ (k : ℕ). 7 ≤ k) (sym size) least) (subst (λ (k : ℕ). k ≤ 71) (sym size) most) e;
      pads = one_more _ _ _ (length-drop n rest) pads;
      parts = rw (size, append-nil (drop n rest), take-append-drop n rest) refl;
    }
  where
    one_more : (k l m : ℕ) → k ≡ l - m → l ≤ m + 1 → k ≤ 1
    one_more k l m e h = omega arith

carried_from : (r s c a b d e f g h i j n : ℕ) (rest : List ℕ) → first (lan_rows (6 ∷ r ∷ s ∷ c ∷ a ∷ b ∷ d ∷ e ∷ f ∷ g ∷ h ∷ i ∷ j ∷ n ∷ rest)) ≡ None
    → Carried (6 ∷ r ∷ s ∷ c ∷ a ∷ b ∷ d ∷ e ∷ f ∷ g ∷ h ∷ i ∷ j ∷ n ∷ rest)
carried_from r s c a b d e f g h i j n rest none =
    let class = none_applies (lan_rows (6 ∷ r ∷ s ∷ c ∷ a ∷ b ∷ d ∷ e ∷ f ∷ g ∷ h ∷ i ∷ j ∷ n ∷ rest)) none in
    let whole_auth = class.1 in
    let auth = whole_auth.1 in
    let whole_session = auth.1 in
    let session = whole_session.1 in
    let whole_length = session.1 in
    let bounds = whole_length.1 in
    let whole_message = bounds.1 in
    let behind = whole_message.1 in
    let limits = within n 7 71 bounds.0 in
    record {
      reserved = r;
      sequence = s;
      n = n;
      rest = rest;
      least = limits.0;
      most = limits.1;
      whole = enough (length rest) n (is_long _ _ whole_message.0);
      pads = no_more (length rest) n (is_long _ _ behind.0);
      parts = laid (is_equal c 7 class.0) (is_equal a 0 auth.0) (same_octets (b ∷ d ∷ e ∷ f ∷ g ∷ h ∷ i ∷ j ∷ []) (replicate 8 0) session.0);
    }
  where
    enough : (l n : ℕ) → 14 + n ≤ suc (suc (suc (suc (suc (suc (suc (suc (suc (suc (suc (suc (suc (suc l))))))))))))) → n ≤ l
    enough l n h = omega arith

    no_more : (l n : ℕ) → suc (suc (suc (suc (suc (suc (suc (suc (suc (suc (suc (suc (suc (suc l))))))))))))) ≤ 15 + n → l ≤ n + 1
    no_more l n h = omega arith

    laid : c ≡ 7 → a ≡ 0 → b ∷ d ∷ e ∷ f ∷ g ∷ h ∷ i ∷ j ∷ [] ≡ replicate 8 0 → 6 ∷ r ∷ s ∷ c ∷ a ∷ b ∷ d ∷ e ∷ f ∷ g ∷ h ∷ i ∷ j ∷ n ∷ rest ≡ carrier r s n rest
    laid class none zeros = cc

carried_of : (octets : List ℕ) → first (header_rows octets) ≡ None → first (lan_rows octets) ≡ None → Carried octets
carried_of octets head none =
    let h = header_of octets head in
    subst Carried (sym h.parts) (behind_header h.reserved h.sequence h.class_octet h.rest (subst (λ (l : List ℕ). first (lan_rows l) ≡ None) h.parts none))
  where
    many : (n l : ℕ) → 7 ≤ n → 14 + n ≤ suc (suc (suc (suc l))) → 12 ≤ l
    many n l h k = omega arith

    behind_header : (r s c : ℕ) (rest : List ℕ) → first (lan_rows (6 ∷ r ∷ s ∷ c ∷ rest)) ≡ None → Carried (6 ∷ r ∷ s ∷ c ∷ rest)
    behind_header r s c rest none =
        let bounds = (none_applies (lan_rows (6 ∷ r ∷ s ∷ c ∷ rest)) none).1.1.1.1.1.1 in
        let t = twelve rest (many (slice_index (6 ∷ r ∷ s ∷ c ∷ rest) 13) (length rest) (within _ 7 71 bounds.0).0 (is_long _ _ bounds.1.0)) in
        let P : List ℕ → Type 0 = λ l. first (lan_rows (6 ∷ r ∷ s ∷ c ∷ l)) ≡ None → Carried (6 ∷ r ∷ s ∷ c ∷ l) in
        let a = t.first in
        let b = t.second in
        let d = t.third in
        subst P (sym t.parts) (carried_from r s c a.a a.b a.c a.d b.a b.b b.c b.d d.a d.b (d.c ∷ d.d ∷ d.rest)) none

pub lan_sound : (octets : List ℕ) → lan_fault octets ≡ None → IsLan octets (lan_in octets)
lan_sound octets e =
    let head = both_pass (first (header_rows octets)) _ e in
    let both = both_pass (first (lan_rows octets)) _ head.1 in
    let c = carried_of octets head.0 both.0 in
    let P : List ℕ → Type 0 = λ l. first (message_rows (message_of l)) ≡ None → IsLan l (lan_in l) in
    subst P (sym c.parts) (carried_sound c.reserved c.sequence c.n c.rest c.least c.most c.whole c.pads) both.1

carrier_accepted : (r s n : ℕ) (rest : List ℕ) → 7 ≤ n → n ≤ 71 → n ≤ length rest → length rest ≤ n + 1 → (first (header_rows (carrier r s n rest)) ≡ None) × (first (lan_rows (carrier r s n rest)) ≡ None)
carrier_accepted r s n rest least most whole pads =
    let all : List ℕ = carrier r s n rest in
    let version : nat_lt (length (carrier r s n rest)) 1 ≡ false = not_below _ _ (omega arith) in
    let class : nat_lt (length (carrier r s n rest)) 4 ≡ false = not_below _ _ (omega arith) in
    let auth : nat_lt (length (carrier r s n rest)) 5 ≡ false = not_below _ _ (omega arith) in
    let session : nat_lt (length (carrier r s n rest)) 13 ≡ false = not_below _ _ (omega arith) in
    let length_octet : nat_lt (length (carrier r s n rest)) 14 ≡ false = not_below _ _ (omega arith) in
    let low : nat_lt n 7 ≡ false = not_below _ _ least in
    let high : nat_lt 71 n ≡ false = not_below _ _ most in
    let message : nat_lt (length (carrier r s n rest)) (14 + n) ≡ false = not_below _ _ (omega arith) in
    let behind : nat_lt (15 + n) (length (carrier r s n rest)) ≡ false = not_below _ _ (omega arith) in
    (rw (version, class) refl, rw (auth, session, length_octet, low, high, message, behind) refl)

pub lan_complete : (octets : List ℕ) (m : LanMessage) → IsLan octets m → (lan_fault octets ≡ None) × (lan_in octets ≡ m)
lan_complete octets m is =
    let rest : List ℕ = is.carried ++ (is.pad ++ []) in
    let n : ℕ = length is.carried in
    let there = found m is.is_message.first is.is_message.second in
    let size : length is.carried ≡ 7 + length m.payload = ap length is.is_message.parts ∙ there.size in
    let total : length (is.carried ++ (is.pad ++ [])) ≡ length is.carried + length is.pad = length-append is.carried (is.pad ++ []) ∙ ap (λ (l : List ℕ). length is.carried + length l) (append-nil is.pad) in
    let passes = carrier_accepted is.reserved is.sequence (length is.carried) (is.carried ++ (is.pad ++ [])) (least _ _ size) (most _ _ size is.is_message.few) (whole _ _ _ total) (pads _ _ _ total is.pads) in
    let message = message_complete is.carried m is.is_message in
    let cut : take (length is.carried) (is.carried ++ (is.pad ++ [])) ≡ is.carried = take_at is.carried (is.pad ++ []) (length is.carried) refl in
    let P : List ℕ → Type 0 = λ l. (lan_fault l ≡ None) × (lan_in l ≡ m) in
    subst P (sym is.parts) (rw (passes.0, passes.1, cut, message.0) refl, rw cut message.1)
  where
    least : (n k : ℕ) → n ≡ 7 + k → 7 ≤ n
    least n k e = omega arith

    most : (n k : ℕ) → n ≡ 7 + k → k ≤ 64 → n ≤ 71
    most n k e h = omega arith

    whole : (l n p : ℕ) → l ≡ n + p → n ≤ l
    whole l n p e = omega arith

    pads : (l n p : ℕ) → l ≡ n + p → p ≤ 1 → l ≤ n + 1
    pads l n p e h = omega arith
