-- Parts of octets, and the numbers that words are.
use Rattle.std.proofs.Common.{◌≡◌, ℕ, zero, suc, ◌+◌, ◌-◌, ◌*◌, ◌<◌, ◌≤◌, Bool, true, false, ◌&&◌, nat_eq, nat_le, nat_lt, if◌then◌else◌, cond, List, [], ◌∷◌, length, take, drop, get_or, Option, Some, None, is_some, MatchOption, Bor, add-one, refl, sym, ◌∙◌, ap, arith}
use Rattle.std.specs.List.{position, position_or_len}
use Rattle.std.proofs.lemmas.Bool.Decides.{nat_tests}
use Rattle.std.proofs.lemmas.List.Quantifiers.{position-Some}
use Rattle.std.proofs.lemmas.List.Sums.{fails_before_first}
use Rattle.script_text.specs.Lines.{onto_first}
use Rattle.script_text.specs.Forms.{parts_of, words_of, onto_words, value_from, decimal_of, are_digits, ip_of_parts, ip_of, address_of_parts, address_of}
use Rattle.script_text.specs.Script.{head_of_words, head_of}

onto_some : (b : ℕ) (parts : List (List ℕ)) → onto_words [] (onto_first b parts) ≡ onto_first b parts
onto_some b [] = refl
onto_some b (part ∷ parts) = refl

-- octets have a part
pub parts_some : (s : ℕ) (text : List ℕ) → parts_of s text ≡ onto_words [] (parts_of s text)
parts_some s [] = refl
parts_some s (b ∷ text) = by (nat_eq b s)
  where
    by : (t : Bool) → (if t then [] ∷ parts_of s text else onto_first b (parts_of s text)) ≡ onto_words [] (if t then [] ∷ parts_of s text else onto_first b (parts_of s text))
    by true = refl
    by false = sym (onto_some b (parts_of s text))

-- the first part is what comes before the first separator
before_separator : (s : ℕ) (text : List ℕ) (i : ℕ) → i < length text → nat_eq (get_or text i 0) s ≡ true → ((k : ℕ) → k < i → nat_eq (get_or text k 0) s ≡ false)
    → parts_of s text ≡ take i text ∷ parts_of s (drop (suc i) text)
before_separator s [] i within is none = absurd (omega (arith, within))
before_separator s (b ∷ text) zero within is none = rw is refl
before_separator s (b ∷ text) (suc i) within is none =
    rw (none 0 (omega arith)) (ap (onto_first b) (before_separator s text i (omega (arith, within)) is (λ k below. none (suc k) (omega (arith, below)))))

pub first_of_parts : (s : ℕ) (text : List ℕ) (i : ℕ) → position (λ b. nat_eq b s) text ≡ Some i
    → parts_of s text ≡ take i text ∷ parts_of s (drop (i + 1) text)
first_of_parts s text i found =
    let at = position-Some (λ b. nat_eq b s) text i 0 found in
    before_separator s text i at.0 at.1 at.2 ∙ ap (λ n. take i text ∷ parts_of s (drop n text)) (sym (add-one i))

no_separator : (s : ℕ) (text : List ℕ) → ((k : ℕ) → k < length text → nat_eq (get_or text k 0) s ≡ false) → parts_of s text ≡ text ∷ []
no_separator s [] none = refl
no_separator s (b ∷ text) none = rw (none 0 (omega arith)) (ap (onto_first b) (no_separator s text (λ k below. none (suc k) (omega (arith, below)))))

pub one_part : (s : ℕ) (text : List ℕ) → position (λ b. nat_eq b s) text ≡ None → parts_of s text ≡ text ∷ []
one_part s text none = no_separator s text (λ k below. fails_before_first (λ b. nat_eq b s) text k 0 (omega (arith, below, by (nat_lt first (length text)) refl none)))
  where
    first : ℕ
    first = position_or_len (λ b. nat_eq b s) text

    by : (t : Bool) → t ≡ nat_lt first (length text) → cond t (Some first) None ≡ None → length text ≤ first
    by true is e = absurd (cc e)
    by false is e = let test : nat_lt first (length text) ≡ false = sym is in grind (arith, nat_tests)

-- a last part that a separator follows isn't the last
pub record HasMore (s : ℕ) (first text : List ℕ) : Type 0 where
  pub second : List ℕ
  pub more : List (List ℕ)
  pub parts : parts_of s text ≡ first ∷ second ∷ more

pub has_more : (s : ℕ) (first text : List ℕ) (r : Option (Bor (List ℕ))) → is_some r ≡ true
    → MatchOption r (parts_of s text ≡ first ∷ []) (λ rest. parts_of s text ≡ first ∷ parts_of s rest.now) → HasMore s first text
has_more s first text None some are = absurd (cc some)
has_more s first text (Some rest) some are = by (parts_of s rest.now) (are ∙ ap (λ p. first ∷ p) (parts_some s rest.now))
  where
    by : (parts : List (List ℕ)) → parts_of s text ≡ first ∷ onto_words [] parts → HasMore s first text
    by [] are = record { second = []; more = []; parts = are }
    by (part ∷ parts) are = record { second = part; more = parts; parts = are }

-- a line of four words or more is no head
pub no_head : (word line first id count two three : List ℕ) → words_of line ≡ first ∷ words_of two → words_of two ≡ id ∷ words_of three → HasMore 32 count three → None ≡ head_of word line
no_head word line first id count two three one next more =
    let words = one ∙ ap (λ w. first ∷ w) next ∙ ap (λ w. first ∷ id ∷ w) more.parts in
    by (nat_le (length line) 1200) (ap (head_of_words word) (sym words))
  where
    by : (t : Bool) → None ≡ head_of_words word (words_of line) → None ≡ (if t then head_of_words word (words_of line) else None)
    by true none = none
    by false none = refl

-- nor do five numbers make an address, or two ports
pub five_numbers : (ip a b c d two three four : List ℕ) → parts_of 46 ip ≡ a ∷ parts_of 46 two → parts_of 46 two ≡ b ∷ parts_of 46 three → parts_of 46 three ≡ c ∷ parts_of 46 four
    → HasMore 46 d four → None ≡ ip_of ip
five_numbers ip a b c d two three four one next third more =
    ap ip_of_parts (sym (one ∙ ap (λ w. a ∷ w) next ∙ ap (λ w. a ∷ b ∷ w) third ∙ ap (λ w. a ∷ b ∷ c ∷ w) more.parts))

pub two_ports : (word ip port behind : List ℕ) → parts_of 58 word ≡ ip ∷ parts_of 58 behind → HasMore 58 port behind → None ≡ address_of word
two_ports word ip port behind one more = ap address_of_parts (sym (one ∙ ap (λ w. ip ∷ w) more.parts))

-- the value of digits is at least the number that they are behind
pub value_grows : (n : ℕ) (digits : List ℕ) → n ≤ value_from n digits
value_grows n [] = omega arith
value_grows n (c ∷ digits) = omega (arith, value_grows (n * 10 + (c - 48)) digits)

value_next : (n i : ℕ) (digits : List ℕ) → i < length digits → n * 10 + (get_or digits i 0 - 48) ≤ value_from n (drop i digits)
value_next n i [] within = absurd (omega (arith, within))
value_next n zero (c ∷ digits) within = value_grows (n * 10 + (c - 48)) digits
value_next n (suc i) (c ∷ digits) within = value_next n i digits (omega (arith, within))

-- a number above the greatest is none
pub decimal_above : (most greatest n i : ℕ) (digits : List ℕ) → greatest < n * 10 + (get_or digits i 0 - 48) → i < length digits → value_from 0 digits ≡ value_from n (drop i digits)
    → None ≡ decimal_of most greatest digits
decimal_above most greatest n i digits above within value =
    let great : greatest < value_from 0 digits = omega (arith, value_next n i digits within, value, above) in
    let refused : nat_le (value_from 0 digits) greatest ≡ false = grind (arith, nat_tests) in
    rw refused (by (nat_lt 0 (length digits) && nat_le (length digits) most && are_digits digits))
  where
    by : (t : Bool) → None ≡ (if t && false then Some (value_from 0 digits) else None)
    by true = refl
    by false = refl
