-- One part of a list of octets, by where it stands and by what it is.
use Rattle.std.proofs.Common.{◌≡◌, ℕ, ◌+◌, ◌*◌, ◌/◌, ◌%◌, ◌^◌, ◌<◌, ◌≤◌, List, [], ◌∷◌, ◌++◌, length, get_or, take, drop, sym, ap, ◌∙◌, arith, add-zero}
use Rattle.std.proofs.lemmas.List.{take-append-drop, get_or-drop, length-drop, drop-drop, drop_more, drop_at, take_at}
use Rattle.byteorder.specs.Endian.{big_number, big_bytes}
use Rattle.byteorder.specs.Numbers.{big_number-reads_back}

-- each octet is below 256
abbrev pub AreOctets : List ℕ → Type 0
AreOctets octets = (i : ℕ) → get_or octets i 0 < 256

AreOctets-drop : (k : ℕ) (octets : List ℕ) → AreOctets octets → AreOctets (drop k octets)
AreOctets-drop k octets fit i = let e = get_or-drop k octets i 0 in let h = fit (k + i) in omega arith

drop-to : (k n m : ℕ) (octets : List ℕ) → k + n ≡ m → drop n (drop k octets) ≡ drop m octets
drop-to k n m octets e = drop-drop n k octets ∙ ap (λ i. drop i octets) e

pair_back : (octets : List ℕ) → AreOctets octets → 2 ≤ length octets → big_bytes 2 (big_number 2 octets) ≡ take 2 octets
pair_back [] fit h = absurd (omega arith)
pair_back (a ∷ []) fit h = absurd (omega arith)
pair_back (a ∷ b ∷ rest) fit h =
    let a_fits : a < 256 = fit 0 in
    let b_fits : b < 256 = fit 1 in
    let high : (a * 256 + (b * 1 + 0)) / 256 % 256 ≡ a = omega arith in
    let low : (a * 256 + (b * 1 + 0)) % 256 ≡ b = omega arith in
    cc

quad_back : (octets : List ℕ) → AreOctets octets → 4 ≤ length octets → big_bytes 4 (big_number 4 octets) ≡ take 4 octets
quad_back [] fit h = absurd (omega arith)
quad_back (a ∷ []) fit h = absurd (omega arith)
quad_back (a ∷ b ∷ []) fit h = absurd (omega arith)
quad_back (a ∷ b ∷ c ∷ []) fit h = absurd (omega arith)
quad_back (a ∷ b ∷ c ∷ d ∷ rest) fit h =
    let a_fits : a < 256 = fit 0 in
    let b_fits : b < 256 = fit 1 in
    let c_fits : c < 256 = fit 2 in
    let d_fits : d < 256 = fit 3 in
    let first : (a * 16777216 + (b * 65536 + (c * 256 + (d * 1 + 0)))) / 16777216 % 256 ≡ a = omega arith in
    let second : (a * 16777216 + (b * 65536 + (c * 256 + (d * 1 + 0)))) / 65536 % 256 ≡ b = omega arith in
    let third : (a * 16777216 + (b * 65536 + (c * 256 + (d * 1 + 0)))) / 256 % 256 ≡ c = omega arith in
    let fourth : (a * 16777216 + (b * 65536 + (c * 256 + (d * 1 + 0)))) % 256 ≡ d = omega arith in
    cc

-- What was taken from place k on, put before what stands from place m on.
module _ (octets : List ℕ) where
  pub part_joins : (k n m : ℕ) {rest : List ℕ} → k + n ≡ m → rest ≡ drop m octets → take n (drop k octets) ++ rest ≡ drop k octets
  part_joins k n m e behind =
      ap (λ l. take n (drop k octets) ++ l) (behind ∙ sym (drop-to k n m octets e)) ∙ take-append-drop n (drop k octets)

  pub octet_joins : (k m : ℕ) {rest : List ℕ} → k + 1 ≡ m → k < length octets → rest ≡ drop m octets → get_or octets k 0 ∷ rest ≡ drop k octets
  octet_joins k m e below behind =
      ap (λ l. get_or octets k 0 ∷ l) (behind ∙ ap (λ i. drop i octets) (sym e)) ∙ sym (drop_more octets k 0 below)

  pub pair_joins : (k m : ℕ) {rest : List ℕ} → k + 2 ≡ m → m ≤ length octets → AreOctets octets → rest ≡ drop m octets → big_bytes 2 (big_number 2 (drop k octets)) ++ rest ≡ drop k octets
  pair_joins k m {rest} e below fit behind =
      ap (λ l. l ++ rest) (pair_back (drop k octets) (AreOctets-drop k octets fit) (omega (arith, length-drop k octets))) ∙ part_joins k 2 m e behind

  pub quad_joins : (k m : ℕ) {rest : List ℕ} → k + 4 ≡ m → m ≤ length octets → AreOctets octets → rest ≡ drop m octets → big_bytes 4 (big_number 4 (drop k octets)) ++ rest ≡ drop k octets
  quad_joins k m {rest} e below fit behind =
      ap (λ l. l ++ rest) (quad_back (drop k octets) (AreOctets-drop k octets fit) (omega (arith, length-drop k octets))) ∙ part_joins k 4 m e behind

-- Where a part and then a rest stand from place k on, what is found there.
module _ (octets : List ℕ) where
  pub behind : (k n m : ℕ) (part rest : List ℕ) → k + n ≡ m → length part ≡ n → drop k octets ≡ part ++ rest → drop m octets ≡ rest
  behind k n m part rest e size at = sym (drop-to k n m octets e) ∙ ap (drop n) at ∙ drop_at part rest n size

  pub part_at : (k n : ℕ) (part rest : List ℕ) → length part ≡ n → drop k octets ≡ part ++ rest → take n (drop k octets) ≡ part
  part_at k n part rest size at = ap (take n) at ∙ take_at part rest n size

  pub octet_at : (k x : ℕ) (rest : List ℕ) → drop k octets ≡ x ∷ rest → get_or octets k 0 ≡ x
  octet_at k x rest at = ap (λ i. get_or octets i 0) (sym (add-zero k)) ∙ sym (get_or-drop k octets 0 0) ∙ ap (λ l. get_or l 0 0) at

  pub number_at : (k n x : ℕ) (rest : List ℕ) → x < 256 ^ n → drop k octets ≡ big_bytes n x ++ rest → big_number n (drop k octets) ≡ x
  number_at k n x rest fits at = ap (big_number n) at ∙ big_number-reads_back n x rest fits
