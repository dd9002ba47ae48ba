-- A line is a head exactly where it is so spelled.
use Rattle.std.proofs.Common.{◌≡◌, ◌≢◌, ℕ, ◌≤◌, ◌/◌, ◌%◌, ◌==◌, Bool, true, false, ◌&&◌, nat_eq, nat_le, nat_lt, bytes_eq, if◌then◌else◌, List, [], ◌∷◌, ◌++◌, length, Option, Some, None, Result, Ok, Err, ◌⊎◌, inl, inr, refl, sym, ◌∙◌, ap, subst, arith}
use Rattle.std.specs.Prelude.{⊤}
use Rattle.std.specs.Bool.{Decides}
use Rattle.std.specs.List.{AllByRecursion}
use Rattle.std.proofs.lemmas.Bool.{ne_eqb, false≢true}
use Rattle.std.proofs.lemmas.Bool.Decides.{eqb_tells, nat_tests}
use Rattle.std.proofs.lemmas.List.Elements.{recursion_from_All}
use Rattle.std.proofs.lemmas.Slice.Eq.{bytes_eq-Decides}
use Rattle.hex.specs.Hex.{decode_sized, decode_pairs, is_hex_digit}
use Rattle.hex.proofs.HexLemmas.{decode_pairs-ok}
use Rattle.hex.specs.declared.error.FromHexError.{FromHexError}
use Rattle.hex.specs.declared.error.FromHexError.TheVariants.{OddLength, InvalidStringLength}
use Rattle.script_text.specs.declared.head.Head.{Head}
use Rattle.script_text.specs.Lines.{line_limit, onto_first}
use Rattle.script_text.specs.Forms.{words_of, onto_words, octets_by, octets_exactly, count_of, value_from, are_digits, is_digit, number_of}
use Rattle.script_text.specs.Script.{head_with, head_of_words, head_of, HasNoSpace, SpellsHead}
use Rattle.script_text.proofs.WordLemmas.{parts_some}

-- words with one space between them
joined : List (List ℕ) → List ℕ
joined [] = []
joined (word ∷ []) = word
joined (word ∷ next ∷ words) = word ++ 32 ∷ joined (next ∷ words)

joined_space : (words : List (List ℕ)) → joined ([] ∷ onto_words [] words) ≡ 32 ∷ joined (onto_words [] words)
unfolding joined
joined_space [] = refl
joined_space (word ∷ words) = refl

joined_onto : (b : ℕ) (words : List (List ℕ)) → joined (onto_first b words) ≡ b ∷ joined words
unfolding joined
joined_onto b [] = refl
joined_onto b (word ∷ []) = refl
joined_onto b (word ∷ next ∷ words) = refl

join_octet : (b : ℕ) (line : List ℕ) → line ≡ joined (words_of line) → ((nat_eq b 32 ≡ true) × (b ≡ 32)) ⊎ ((nat_eq b 32 ≡ false) × (b ≢ 32)) → b ∷ line ≡ joined (words_of (b ∷ line))
join_octet b line is (inl space) =
    rw space.0 (ap (λ c. c ∷ line) space.1 ∙ ap (λ l. 32 ∷ l) (is ∙ ap joined (parts_some 32 line)) ∙ sym (joined_space (words_of line)) ∙ ap (λ w. joined ([] ∷ w)) (sym (parts_some 32 line)))
join_octet b line is (inr other) = rw other.0 (ap (λ l. b ∷ l) is ∙ sym (joined_onto b (words_of line)))

-- a line is its words with one space between them
joined_words : (line : List ℕ) → line ≡ joined (words_of line)
unfolding joined
joined_words [] = refl
joined_words (b ∷ line) = join_octet b line (joined_words line) (eqb_tells b 32)

pub same_octets : (one other : List ℕ) → bytes_eq one other ≡ true → one ≡ other
same_octets one other h = let d : Decides true (one ≡ other) = subst (λ b. Decides b (one ≡ other)) h (bytes_eq-Decides one other) in d.0 refl

pub same_test : (one : List ℕ) → bytes_eq one one ≡ true
same_test one = by (bytes_eq one one) (bytes_eq-Decides one one)
  where
    by : (t : Bool) → Decides t (one ≡ one) → t ≡ true
    by true d = refl
    by false d = absurd (false≢true (d.1 refl))

-- no word of a line has a space
abbrev BeginsWithWord : List (List ℕ) → Type 0
BeginsWithWord [] = ⊤
BeginsWithWord (word ∷ words) = HasNoSpace word

onto_word : (b : ℕ) (words : List (List ℕ)) → b ≢ 32 → BeginsWithWord words → BeginsWithWord (onto_first b words)
onto_word b [] other begins = (other, tt)
onto_word b (word ∷ words) other begins = (other, begins)

begins_octet : (b : ℕ) (line : List ℕ) → BeginsWithWord (words_of line) → ((nat_eq b 32 ≡ true) × (b ≡ 32)) ⊎ ((nat_eq b 32 ≡ false) × (b ≢ 32)) → BeginsWithWord (words_of (b ∷ line))
begins_octet b line begins (inl space) = rw space.0 tt
begins_octet b line begins (inr other) = rw other.0 (onto_word b (words_of line) other.1 begins)

begins_with_word : (line : List ℕ) → BeginsWithWord (words_of line)
begins_with_word [] = tt
begins_with_word (b ∷ line) = begins_octet b line (begins_with_word line) (eqb_tells b 32)

-- which words are a head
record IsHead (octets : Option (List ℕ)) (count : Option ℕ) (head : Head) : Type 0 where
  four : List ℕ
  decodes : octets ≡ Some four
  id_is : head.id ≡ number_of four
  counts : count ≡ Some head.count

with_some : (octets : Option (List ℕ)) (count : Option ℕ) (head : Head) → head_with octets count ≡ Some head → IsHead octets count head
with_some (Some four) (Some count) head e =
    let is : record { id = number_of four; count = count } ≡ head = cc in record {
      four = four;
      decodes = refl;
      id_is = sym (ap (λ (h : Head). h.id) is);
      counts = ap (λ (h : Head). Some h.count) is;
    }
with_some (Some four) None head e = absurd (cc e)
with_some None count head e = absurd (cc e)

tested_some : {A : Type 0} (t : Bool) (o : Option A) (x : A) → (if t then o else None) ≡ Some x → (t ≡ true) × (o ≡ Some x)
tested_some true o x e = (refl, e)
tested_some false o x e = absurd (cc e)

words_spelled : (word : List ℕ) (words : List (List ℕ)) (head : Head) → length (joined words) ≤ line_limit → BeginsWithWord words → head_of_words word words ≡ Some head → SpellsHead word head.id head.count (joined words)
unfolding joined
words_spelled word [] head fits begins e = absurd (cc e)
words_spelled word (first ∷ []) head fits begins e = absurd (cc e)
words_spelled word (first ∷ id ∷ []) head fits begins e = absurd (cc e)
words_spelled word (first ∷ id ∷ count ∷ []) head fits begins e =
    let t = tested_some (bytes_eq first word) (head_with (octets_exactly 4 id) (count_of count)) head e in
    let same = same_octets first word t.0 in
    let is = with_some (octets_exactly 4 id) (count_of count) head t.1 in record {
      ids = id;
      octets = is.four;
      digits = count;
      is = ap (λ w. w ++ 32 ∷ (id ++ 32 ∷ count)) same;
      one_word = subst HasNoSpace same begins;
      decodes = is.decodes;
      id_is = is.id_is;
      counts = is.counts;
      fits = fits;
    }
words_spelled word (first ∷ id ∷ count ∷ other ∷ more) head fits begins e = absurd (cc e)

pub head_spelled : (word line : List ℕ) (head : Head) → head_of word line ≡ Some head → SpellsHead word head.id head.count line
head_spelled word line head has =
    let t = tested_some (nat_le (length line) line_limit) (head_of_words word (words_of line)) head has in
    let test = t.0 in
    let fits : length line ≤ line_limit = grind (arith, nat_tests) in
    subst (SpellsHead word head.id head.count) (sym (joined_words line))
    (words_spelled word (words_of line) head (subst (λ l. length l ≤ line_limit) (joined_words line) fits) (begins_with_word line) t.1)

-- hexadecimal and decimal digits are one word
sized_pairs : (odd fits : Bool) (r : Result (List ℕ) FromHexError) (octets : List ℕ) (e f : FromHexError) → (if odd then Err e else if fits then r else Err f) ≡ Ok octets → r ≡ Ok octets
sized_pairs true fits r octets e f h = absurd (cc h)
sized_pairs false true r octets e f h = h
sized_pairs false false r octets e f h = absurd (cc h)

pub decodes_pairs : (digits octets : List ℕ) (n : ℕ) → decode_sized digits n ≡ Ok octets → decode_pairs 0 digits ≡ Ok octets
decodes_pairs digits octets n h = sized_pairs (length digits % 2 == 1) (length digits / 2 == n) (decode_pairs 0 digits) octets OddLength InvalidStringLength h

one_word : (word : List ℕ) → HasNoSpace word → words_of word ≡ word ∷ []
one_word [] none = refl
one_word (b ∷ word) none = rw (ne_eqb b 32 none.0) (ap (onto_first b) (one_word word none.1))

word_front : (word rest : List ℕ) → HasNoSpace word → words_of (word ++ 32 ∷ rest) ≡ word ∷ words_of rest
word_front [] rest none = refl
word_front (b ∷ word) rest none = rw (ne_eqb b 32 none.0) (ap (onto_first b) (word_front word rest none.1))

hex_other : (b : ℕ) → is_hex_digit b ≡ true → b ≢ 32
hex_other b digit is = let h : is_hex_digit 32 ≡ true = ap is_hex_digit (sym is) ∙ digit in cc h

hex_all : (digits : List ℕ) → AllByRecursion (λ b. is_hex_digit b ≡ true) digits → HasNoSpace digits
hex_all [] all = tt
hex_all (b ∷ digits) all = (hex_other b all.0, hex_all digits all.1)

hex_word : (digits octets : List ℕ) (n : ℕ) → decode_sized digits n ≡ Ok octets → HasNoSpace digits
hex_word digits octets n decodes =
    let all = (decode_pairs-ok 0 digits octets (decodes_pairs digits octets n decodes)).0 in
    hex_all digits (recursion_from_All (λ b. is_hex_digit b ≡ true) digits all)

digit_other : (b : ℕ) → is_digit b ≡ true → b ≢ 32
digit_other b digit is = let h : is_digit 32 ≡ true = ap is_digit (sym is) ∙ digit in cc h

both : (t u : Bool) → t && u ≡ true → (t ≡ true) × (u ≡ true)
both true true e = (refl, refl)
both true false e = absurd (cc e)
both false u e = absurd (cc e)

digits_word : (digits : List ℕ) → are_digits digits ≡ true → HasNoSpace digits
digits_word [] are = tt
digits_word (b ∷ digits) are =
    let parts = both (is_digit b) (are_digits digits) are in
    (digit_other b parts.0, digits_word digits parts.1)

counted : (some few digits small : Bool) (value count : ℕ) → (if some && few && digits && small then Some value else None) ≡ Some count → digits ≡ true
counted true true true small value count e = refl
counted true true false small value count e = absurd (cc e)
counted true false digits small value count e = absurd (cc e)
counted false few digits small value count e = absurd (cc e)

count_word : (digits : List ℕ) (count : ℕ) → count_of digits ≡ Some count → HasNoSpace digits
count_word digits count has =
    digits_word digits (counted (nat_lt 0 (length digits)) (nat_le (length digits) 7) (are_digits digits) (nat_le (value_from 0 digits) 1000000) (value_from 0 digits) count has)

-- a head that is so spelled
decoded : (r : Result (List ℕ) FromHexError) (octets : List ℕ) → octets_by r ≡ Some octets → r ≡ Ok octets
decoded (Ok bytes) octets e = let is : bytes ≡ octets = cc in ap (λ b. Ok b) is
decoded (Err f) octets e = absurd (cc e)

head_at : ℕ → ℕ → Option Head
head_at id count = Some (record { id = id; count = count })

pub spelled_head : (word line : List ℕ) (head : Head) → SpellsHead word head.id head.count line → head_of word line ≡ Some head
unfolding head_at
spelled_head word line head s =
    let fits = s.fits in
    let test : nat_le (length line) line_limit ≡ true = grind (arith, nat_tests) in
    let ids = hex_word s.ids s.octets 4 (decoded (decode_sized s.ids 4) s.octets s.decodes) in
    let digits = count_word s.digits head.count s.counts in
    let words = ap words_of s.is ∙ word_front word (s.ids ++ 32 ∷ s.digits) s.one_word ∙ ap (λ w. word ∷ w) (word_front s.ids s.digits ids) ∙ ap (λ w. word ∷ s.ids ∷ w) (one_word s.digits digits) in
    rw test (ap (head_of_words word) words ∙ rw (same_test word) (ap (λ o. head_with o (count_of s.digits)) s.decodes ∙ ap (head_with (Some s.octets)) s.counts ∙ ap (λ n. head_at n head.count) (sym s.id_is)))
