-- Lengths and numbers in the fewest octets.
use Rattle.std.proofs.Common.{◌≡◌, ℕ, suc, ◌*◌, ◌/◌, ◌%◌, ◌^◌, ◌<◌, ◌≤◌, List, [], ◌∷◌, length, refl, sym, ◌∙◌, inl, inr, arith}
use Rattle.std.proofs.Math.Nat.{pow-le-pow_right, mul-le-mul_right, pow-suc}
use Rattle.std.proofs.lemmas.Bool.{cases_lt, lt-ltb, le-ltb}
use Rattle.snmp_trap.specs.Grammar.{IsLength, IsElement, IsNumber, number_of}
use Rattle.snmp_trap.specs.Shortest.{AreOctets, IsShortestLength, FirstBitIsZero, IsShortestNumber, IsShortElement, IsShortNumberElement}
use Rattle.snmp_trap.specs.Spelling.{length_octets, element, number_length, number_octets, number_element}

-- ---- lengths

no_shorter : (n : ℕ) (other : List ℕ) → IsLength other n → 1 ≤ length other
no_shorter n [] is = absurd is
no_shorter n (first ∷ more) is = omega arith

two_at_least : (n : ℕ) (other : List ℕ) → 128 ≤ n → IsLength other n → 2 ≤ length other
two_at_least n [] long is = absurd is
two_at_least n (first ∷ more) long (inl short) = absurd (omega (arith, short.0, short.2))
two_at_least n (first ∷ more) long (inr is) = omega (arith, is.0)

pub shortest_length : (n : ℕ) → n < 256 → IsShortestLength (length_octets n) n
shortest_length n lt =
    elim (cases_lt n 128) [
      | inl short ↦ rw (lt-ltb _ _ short) (record { is_length = inl (short, refl, refl); least = λ other octets is. no_shorter n other is })
      | inr long ↦ rw (le-ltb _ _ long) (record { is_length = inr (omega arith, omega arith, refl, omega arith); least = λ other octets is. two_at_least n other long is })
    ]

pub short_element : (tag : ℕ) (contents : List ℕ) → length contents < 256 → IsShortElement (element tag contents) tag contents
short_element tag contents lt = record { spelled = length_octets (length contents); is_length = shortest_length (length contents) lt; parts = refl }

-- ---- numbers

-- octets stand for less than a 1 before them would
pub octets_fit : (xs : List ℕ) → AreOctets xs → number_of xs < 256 ^ length xs
octets_fit [] are = omega arith
octets_fit (x ∷ xs) are =
    let rest = octets_fit xs are.1 in
    let power : 256 ^ suc (length xs) ≡ 256 ^ length xs * 256 = pow-suc 256 (length xs) in
    let first : x * 256 ^ length xs ≤ 255 * 256 ^ length xs = mul-le-mul_right (256 ^ length xs) (omega (arith, are.0)) in
    omega (arith, rest, power, first)

too_small : (k : ℕ) (other : List ℕ) → AreOctets other → FirstBitIsZero other → length other ≤ suc k → number_of other < 128 * 256 ^ k
too_small k [] are zero_bit le = absurd zero_bit
too_small k (d ∷ ds) are zero_bit le =
    let rest = octets_fit ds are.1 in
    let first : d * 256 ^ length ds ≤ 127 * 256 ^ length ds = mul-le-mul_right (256 ^ length ds) (omega arith) in
    let power : 256 ^ length ds ≤ 256 ^ k = pow-le-pow_right (omega arith) (omega arith) in
    omega (arith, rest, first, power)

-- a spelling of the number whose first bit is 0, with no octet too many
pub record Spells (k : ℕ) (contents : List ℕ) (n : ℕ) : Type 0 where
  pub octets : AreOctets contents
  pub value : number_of contents ≡ n
  pub first_bit : FirstBitIsZero contents
  pub size : length contents ≡ suc k
  pub needs : (other : List ℕ) → AreOctets other → number_of other ≡ n → FirstBitIsZero other → length contents ≤ length other

needed : (k n : ℕ) (other : List ℕ) → 128 * 256 ^ k ≤ n → AreOctets other → number_of other ≡ n → FirstBitIsZero other → suc (suc k) ≤ length other
needed k n other least are value zero_bit =
    elim (cases_lt (length other) (suc (suc k))) [
      | inl lt ↦ absurd (omega (arith, too_small k other are zero_bit (omega arith)))
      | inr ge ↦ ge
    ]

one_needed : (other : List ℕ) → FirstBitIsZero other → 1 ≤ length other
one_needed [] zero_bit = absurd zero_bit
one_needed (d ∷ ds) zero_bit = omega arith

byte_fits : (n : ℕ) → n % 256 < 256
byte_fits n = omega arith

one_octet : (n : ℕ) → n < 2 ^ 7 → Spells 0 (n % 256 ∷ []) n
one_octet n lt = record {
  octets = (byte_fits n, tt);
  value = omega arith;
  first_bit = omega arith;
  size = refl;
  needs = λ other are value zero_bit. one_needed other zero_bit;
}

two_octets : (n : ℕ) → 2 ^ 7 ≤ n → n < 2 ^ 15 → Spells 1 (n / 256 % 256 ∷ n % 256 ∷ []) n
two_octets n ge lt = record {
  octets = (byte_fits (n / 256), (byte_fits n, tt));
  value = omega arith;
  first_bit = omega arith;
  size = refl;
  needs = λ other are value zero_bit. needed 0 n other (omega arith) are value zero_bit;
}

three_octets : (n : ℕ) → 2 ^ 15 ≤ n → n < 2 ^ 23 → Spells 2 (n / 65536 % 256 ∷ n / 256 % 256 ∷ n % 256 ∷ []) n
three_octets n ge lt = record {
  octets = (byte_fits (n / 65536), (byte_fits (n / 256), (byte_fits n, tt)));
  value = omega arith;
  first_bit = omega arith;
  size = refl;
  needs = λ other are value zero_bit. needed 1 n other (omega arith) are value zero_bit;
}

four_octets : (n : ℕ) → 2 ^ 23 ≤ n → n < 2 ^ 31 → Spells 3 (n / 16777216 % 256 ∷ n / 65536 % 256 ∷ n / 256 % 256 ∷ n % 256 ∷ []) n
four_octets n ge lt = record {
  octets = (byte_fits (n / 16777216), (byte_fits (n / 65536), (byte_fits (n / 256), (byte_fits n, tt))));
  value = omega arith;
  first_bit = omega arith;
  size = refl;
  needs = λ other are value zero_bit. needed 2 n other (omega arith) are value zero_bit;
}

five_octets : (n : ℕ) → 2 ^ 31 ≤ n → n < 2 ^ 32 → Spells 4 (0 ∷ n / 16777216 % 256 ∷ n / 65536 % 256 ∷ n / 256 % 256 ∷ n % 256 ∷ []) n
five_octets n ge lt = record {
  octets = (omega arith, (byte_fits (n / 16777216), (byte_fits (n / 65536), (byte_fits (n / 256), (byte_fits n, tt)))));
  value = omega arith;
  first_bit = omega arith;
  size = refl;
  needs = λ other are value zero_bit. needed 3 n other (omega arith) are value zero_bit;
}

pub record Spelled (n : ℕ) : Type 0 where
  pub more : ℕ
  pub few : more < 5
  pub count : number_length n ≡ suc more
  pub spells : Spells more (number_octets n) n

pub spelled_number : (n : ℕ) → n < 2 ^ 32 → Spelled n
spelled_number n lt =
    elim (cases_lt n (2 ^ 7)) [
      | inl a ↦ record { more = 0; few = omega arith; count = rw (lt-ltb _ _ a) refl; spells = rw (lt-ltb _ _ a) (one_octet n a) }
      | inr a ↦
          elim (cases_lt n (2 ^ 15)) [
            | inl b ↦ record { more = 1; few = omega arith; count = rw (le-ltb _ _ a, lt-ltb _ _ b) refl; spells = rw (le-ltb _ _ a, lt-ltb _ _ b) (two_octets n a b) }
            | inr b ↦
                elim (cases_lt n (2 ^ 23)) [
                  | inl d ↦ record { more = 2; few = omega arith; count = rw (le-ltb _ _ a, le-ltb _ _ b, lt-ltb _ _ d) refl; spells = rw (le-ltb _ _ a, le-ltb _ _ b, lt-ltb _ _ d) (three_octets n b d) }
                  | inr d ↦
                      elim (cases_lt n (2 ^ 31)) [
                        | inl e ↦ record { more = 3; few = omega arith; count = rw (le-ltb _ _ a, le-ltb _ _ b, le-ltb _ _ d, lt-ltb _ _ e) refl; spells = rw (le-ltb _ _ a, le-ltb _ _ b, le-ltb _ _ d, lt-ltb _ _ e) (four_octets n d e) }
                        | inr e ↦ record { more = 4; few = omega arith; count = rw (le-ltb _ _ a, le-ltb _ _ b, le-ltb _ _ d, le-ltb _ _ e) refl; spells = rw (le-ltb _ _ a, le-ltb _ _ b, le-ltb _ _ d, le-ltb _ _ e) (five_octets n e lt) }
                      ]
                ]
          ]
    ]

pub shortest_number : (n : ℕ) → n < 2 ^ 32 → IsShortestNumber (number_octets n) n
shortest_number n lt = let s = (spelled_number n lt).spells in record { value = s.value; first_bit = s.first_bit; least = s.needs }

pub length-number_octets : (n : ℕ) → n < 2 ^ 32 → length (number_octets n) ≡ number_length n
length-number_octets n lt = let s = spelled_number n lt in s.spells.size ∙ sym s.count

pub number_length-fits : (n : ℕ) → n < 2 ^ 32 → number_length n ≤ 5
number_length-fits n lt = let s = spelled_number n lt in omega (arith, s.count, s.few)

pub short_number : (tag n : ℕ) → n < 2 ^ 32 → IsShortNumberElement (number_element tag n) tag n
unfolding number_element
short_number tag n lt = record {
  contents = number_octets n;
  element = short_element tag (number_octets n) (omega (arith, length-number_octets n lt, number_length-fits n lt));
  number = shortest_number n lt;
}

-- ---- what is short is read

pub read_element : (octets : List ℕ) (tag : ℕ) (contents : List ℕ) → IsShortElement octets tag contents → IsElement octets tag contents
read_element octets tag contents is = record { spelled = is.spelled; is_length = is.is_length.is_length; parts = is.parts }

pub read_number : (contents : List ℕ) (n : ℕ) → n < 2 ^ 32 → IsShortestNumber contents n → IsNumber contents n
read_number contents n lt is =
    let s = spelled_number n lt in
    let few : length contents ≤ length (number_octets n) = is.least (number_octets n) s.spells.octets s.spells.value s.spells.first_bit in
    record { some = one_needed contents is.first_bit; few = omega (arith, few, s.spells.size, s.few); value = sym is.value; fits = lt }
