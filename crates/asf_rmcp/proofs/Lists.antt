-- Octets by their first ones and by their last one.
use Rattle.std.proofs.Common.{◌≡◌, ℕ, ◌+◌, ◌≤◌, List, [], ◌∷◌, ◌++◌, length, refl, ap, ◌∙◌, arith}

-- the first four octets
pub record Four (octets : List ℕ) : Type 0 where
  pub a : ℕ
  pub b : ℕ
  pub c : ℕ
  pub d : ℕ
  pub rest : List ℕ
  pub parts : octets ≡ a ∷ b ∷ c ∷ d ∷ rest
  pub size : length octets ≡ 4 + length rest

pub four : (octets : List ℕ) → 4 ≤ length octets → Four octets
four [] h = absurd (omega arith)
four (a ∷ []) h = absurd (omega arith)
four (a ∷ b ∷ []) h = absurd (omega arith)
four (a ∷ b ∷ c ∷ []) h = absurd (omega arith)
four (a ∷ b ∷ c ∷ d ∷ rest) h = record { a = a; b = b; c = c; d = d; rest = rest; parts = refl; size = omega arith }

-- the first twelve octets
pub record Twelve (octets : List ℕ) : Type 0 where
  pub first : Four octets
  pub second : Four first.rest
  pub third : Four second.rest
  pub parts :
      octets
      ≡ first.a ∷ first.b ∷ first.c ∷ first.d ∷ second.a ∷ second.b ∷ second.c ∷ second.d ∷ third.a ∷ third.b ∷ third.c ∷ third.d ∷ third.rest
  pub size : length octets ≡ 12 + length third.rest

pub twelve : (octets : List ℕ) → 12 ≤ length octets → Twelve octets
twelve octets h =
    let a = four octets (least (length octets) h) in
    let b = four a.rest (middle (length octets) (length a.rest) h a.size) in
    let c = four b.rest (most (length octets) (length a.rest) (length b.rest) h a.size b.size) in
    record {
      first = a;
      second = b;
      third = c;
      parts = a.parts ∙ ap (λ (l : List ℕ). a.a ∷ a.b ∷ a.c ∷ a.d ∷ l) (b.parts ∙ ap (λ (l : List ℕ). b.a ∷ b.b ∷ b.c ∷ b.d ∷ l) c.parts);
      size = sizes (length octets) (length a.rest) (length b.rest) (length c.rest) a.size b.size c.size;
    }
  where
    least : (n : ℕ) → 12 ≤ n → 4 ≤ n
    least n h = omega arith

    middle : (n m : ℕ) → 12 ≤ n → n ≡ 4 + m → 4 ≤ m
    middle n m h e = omega arith

    most : (n m k : ℕ) → 12 ≤ n → n ≡ 4 + m → m ≡ 4 + k → 4 ≤ k
    most n m k h e f = omega arith

    sizes : (n m k l : ℕ) → n ≡ 4 + m → m ≡ 4 + k → k ≡ 4 + l → n ≡ 12 + l
    sizes n m k l e f g = omega arith

-- no octets
pub none_left : (octets : List ℕ) → length octets ≤ 0 → octets ≡ []
none_left [] h = refl
none_left (octet ∷ more) h = absurd (omega arith)

-- the last octet
pub record Last (octets : List ℕ) : Type 0 where
  pub before : List ℕ
  pub last : ℕ
  pub parts : octets ≡ before ++ last ∷ []

pub last_of : (octets : List ℕ) → 1 ≤ length octets → Last octets
last_of [] h = absurd (omega arith)
last_of (octet ∷ []) h = record { before = []; last = octet; parts = refl }
last_of (octet ∷ second ∷ more) h =
    let found = last_of (second ∷ more) (omega arith) in
    record { before = octet ∷ found.before; last = found.last; parts = ap (λ (l : List ℕ). octet ∷ l) found.parts }
