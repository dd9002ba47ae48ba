-- Messages: what isn't refused has the layout of what its columns say, and what has the layout isn't refused.
use Rattle.std.proofs.Common.{◌≡◌, ℕ, suc, ◌+◌, ◌-◌, ◌≤◌, List, [], ◌∷◌, ◌++◌, length, None, refl, sym, ap, subst, arith, length-append}
use Rattle.std.specs.Prelude.{slice_index, slice_range}
use Rattle.std.proofs.lemmas.List.{get_or_at, take_at}
use Rattle.asf_rmcp.specs.declared.message.LanMessage.{LanMessage}
use Rattle.asf_rmcp.specs.Layout.{IsChecksum, IsMessage}
use Rattle.asf_rmcp.specs.Refusals.{first, checksum_of, message_rows}
use Rattle.asf_rmcp.specs.Columns.{message_in}
use Rattle.asf_rmcp.specs.Writing.{head_of, rest_of}
use Rattle.asf_rmcp.proofs.Rows.{none_applies, is_equal, equal}
use Rattle.asf_rmcp.proofs.Lists.{last_of}
use Rattle.asf_rmcp.proofs.Checksums.{is_checksum, only_checksum}

-- the octets of a message with these checksums
abbrev pub spelled : LanMessage → ℕ → ℕ → List ℕ
spelled m first second = m.to ∷ m.netfn_lun ∷ first ∷ m.sender ∷ m.seq_lun ∷ m.cmd ∷ (m.payload ++ second ∷ [])

-- what is found in them
pub record Found (octets : List ℕ) (m : LanMessage) (second : ℕ) : Type 0 where
  pub size : length octets ≡ 7 + length m.payload
  pub columns : message_in octets ≡ m
  pub last : slice_index octets (length octets - 1) ≡ second
  pub rest : slice_range octets 3 (length octets - 1) ≡ rest_of m

pub found : (m : LanMessage) (first second : ℕ) → Found (spelled m first second) m second
found m first second =
    let size : length (spelled m first second) ≡ 7 + length m.payload = rw length-append (omega arith) in
    let whole : List ℕ = m.to ∷ m.netfn_lun ∷ first ∷ rest_of m in
    let payload : slice_range (spelled m first second) 6 (length (spelled m first second) - 1) ≡ m.payload =
    take_at m.payload (second ∷ []) _ (less 6 _ _ size refl) in
    record {
      size = size;
      columns = rw payload refl;
      last = get_or_at whole second [] 0 _ (less_one _ _ size);
      rest = take_at (rest_of m) (second ∷ []) _ (less_four _ _ size);
    }
  where
    less : (k n l : ℕ) → l ≡ 7 + n → k ≡ 6 → n ≡ l - 1 - k
    less k n l e f = omega arith

    less_one : (n l : ℕ) → l ≡ 7 + n → suc (suc (suc (suc (suc (suc n))))) ≡ l - 1
    less_one n l e = omega arith

    less_four : (n l : ℕ) → l ≡ 7 + n → suc (suc (suc n)) ≡ l - 1 - 3
    less_four n l e = omega arith

-- any seven octets and more are those of a message with some checksums
record Spelled (octets : List ℕ) : Type 0 where
  message : LanMessage
  first : ℕ
  second : ℕ
  parts : octets ≡ spelled message first second

spelled_by : (octets : List ℕ) → 7 ≤ length octets → Spelled octets
spelled_by (to ∷ netfn_lun ∷ first ∷ sender ∷ seq_lun ∷ cmd ∷ rest) h =
    let end = last_of rest (omega arith) in
    record {
      message = record { to = to; netfn_lun = netfn_lun; sender = sender; seq_lun = seq_lun; cmd = cmd; payload = end.before };
      first = first;
      second = end.last;
      parts = ap (λ (l : List ℕ). to ∷ netfn_lun ∷ first ∷ sender ∷ seq_lun ∷ cmd ∷ l) end.parts;
    }
spelled_by _ h = absurd (omega arith)

less_seven : (n l : ℕ) → l ≡ 7 + n → l ≤ 71 → n ≤ 64
less_seven n l e h = omega arith

pub message_sound : (octets : List ℕ) → 7 ≤ length octets → length octets ≤ 71 → first (message_rows octets) ≡ None → IsMessage octets (message_in octets)
message_sound octets least most e =
    let s = spelled_by octets least in
    let P : List ℕ → Type 0 = λ l. length l ≤ 71 → first (message_rows l) ≡ None → IsMessage l (message_in l) in
    subst P (sym s.parts) (of_spelled s.message s.first s.second) most e
  where
    of_spelled : (m : LanMessage) (f second : ℕ) → length (spelled m f second) ≤ 71 → first (message_rows (spelled m f second)) ≡ None → IsMessage (spelled m f second) (message_in (spelled m f second))
    of_spelled m f second most e =
        let rows = none_applies (message_rows (spelled m f second)) e in
        let there = found m f second in
        let one : f ≡ checksum_of (head_of m) = is_equal f (checksum_of (head_of m)) rows.0 in
        let two : second ≡ checksum_of (rest_of m) = is_equal second (checksum_of (rest_of m)) (rw (there.last, there.rest) at rows.1.0) in
        subst (IsMessage (spelled m f second)) (sym there.columns) (record {
          first = f;
          second = second;
          is_first = subst (IsChecksum (head_of m)) (sym one) (is_checksum (head_of m));
          is_second = subst (IsChecksum (rest_of m)) (sym two) (is_checksum (rest_of m));
          few = less_seven _ _ there.size most;
          parts = refl;
        })

pub message_complete : (octets : List ℕ) (m : LanMessage) → IsMessage octets m → (first (message_rows octets) ≡ None) × (message_in octets ≡ m)
message_complete octets m is =
    let there = found m is.first is.second in
    let one = only_checksum (head_of m) is.first is.is_first in
    let two = only_checksum (rest_of m) is.second is.is_second in
    let P : List ℕ → Type 0 = λ l. (first (message_rows l) ≡ None) × (message_in l ≡ m) in
    subst P (sym is.parts) (rw (there.last, there.rest, ← one, ← two, equal is.first, equal is.second) refl, there.columns)
