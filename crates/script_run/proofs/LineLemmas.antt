-- What a line gives, and how far lines were read.
use Rattle.std.proofs.Common.{◌≡◌, ◌≢◌, ℕ, zero, suc, ◌+◌, ◌-◌, ◌<◌, ◌≤◌, Bool, true, false, if◌then◌else◌, nat_eq, nat_le, List, [], ◌∷◌, ◌++◌, length, Option, Some, None, is_some, refl, ◌∙◌, ap, subst, arith, Result, Ok, Err}
use Rattle.std.specs.Prelude.{IsSome, ◌↔◌, bytes_eq, codes}
use Rattle.std.specs.Bool.{Decides}
use Rattle.std.proofs.lemmas.Bool.Decides.{nat_tests}
use Rattle.std.proofs.lemmas.Slice.Eq.{bytes_eq-Decides}
use Rattle.script_text.specs.Forms.{is_end}
use Rattle.script_text.specs.Lines.{lines_of, behind_line, behind_lines, ends}
use Rattle.script_text.specs.Reading.{NamesLine}
use Rattle.script_text.specs.Script.{Given, given, given_by, bad_at, item_in}
use Rattle.script_run.specs.declared.stop.LineStop.{LineStop}
use Rattle.script_run.specs.declared.stop.LineStop.TheVariants.{Step, Line, Input as InputFailed}
use Rattle.script_run.specs.Lines.{Input, LineGives, GivesItem}

module _ {I : Type 0} (item_of : List ℕ → Option I) (line : List ℕ) where
  pub ended_gives : (lines : List (List ℕ)) (left number : ℕ) → left ≡ 0 → is_end line ≡ true → given item_of (line ∷ lines) left number ≡ record { items = []; bad = None }
  ended_gives lines left number none ended = ap (λ n. given item_of (line ∷ lines) n number) none ∙ ap (λ b. if b then record { items = []; bad = None } else bad_at number) ended

  pub too_many : (lines : List (List ℕ)) (left number : ℕ) → left ≡ 0 → is_end line ≡ false → given item_of (line ∷ lines) left number ≡ bad_at number
  too_many lines left number none ended = ap (λ n. given item_of (line ∷ lines) n number) none ∙ ap (λ b. if b then record { items = []; bad = None } else bad_at number) ended

  more_gives : (lines : List (List ℕ)) (left number : ℕ) → left ≢ 0 → given item_of (line ∷ lines) left number ≡ given_by (item_in item_of line) number (given item_of lines (left - 1) (number + 1))
  more_gives lines zero number some = absurd (some refl)
  more_gives lines (suc left) number some = let e : left ≡ suc left - 1 = omega arith in ap (λ n. given_by (item_in item_of line) number (given item_of lines n (number + 1))) e

  in_time : is_end line ≡ false → length line ≤ 1200 → item_in item_of line ≡ item_of line
  in_time ended fits = let test : nat_le (length line) 1200 ≡ true = grind (arith, nat_tests) in ap (λ b. if b then None else if nat_le (length line) 1200 then item_of line else None) ended ∙ ap (λ b. if b then item_of line else None) test

  pub too_few : (lines : List (List ℕ)) (left number : ℕ) → left ≢ 0 → is_end line ≡ true → given item_of (line ∷ lines) left number ≡ bad_at number
  too_few lines left number some ended =
      more_gives lines left number some ∙ ap (λ b. given_by (if b then None else if nat_le (length line) 1200 then item_of line else None) number (given item_of lines (left - 1) (number + 1))) ended

  pub item_gives : (lines : List (List ℕ)) (left number : ℕ) (o : Option I) → left ≢ 0 → is_end line ≡ false → length line ≤ 1200 → item_of line ≡ o
      → given item_of (line ∷ lines) left number ≡ given_by o number (given item_of lines (left - 1) (number + 1))
  item_gives lines left number o some ended fits gives =
      more_gives lines left number some ∙ ap (λ i. given_by i number (given item_of lines (left - 1) (number + 1))) (in_time ended fits ∙ gives)

  too_long_in : 1200 < length line → item_in item_of line ≡ None
  too_long_in long = let test : nat_le (length line) 1200 ≡ false = grind (arith, nat_tests) in by_end (is_end line) (ap (λ b. if b then item_of line else None) test)
    where
      by_end : (b : Bool) {o : Option I} → o ≡ None → (if b then None else o) ≡ None
      by_end true is = refl
      by_end false is = is

-- a line that is too long, or none, is bad
pub no_line : {I : Type 0} (item_of : List ℕ → Option I) (lines : List (List ℕ)) (left number : ℕ) → lines ≡ [] → given item_of lines left number ≡ bad_at number
no_line item_of lines left number none = ap (λ l. given item_of l left number) none

later_by : {I : Type 0} (o : Option I) (number n : ℕ) (g : Given I) → (g.bad ≡ Some n → number + 1 ≤ n) → (given_by o number g).bad ≡ Some n → number ≤ n
later_by (Some item) number n g rest is = omega (arith, rest is)
later_by None number n g rest is = let e : number ≡ n = cc is in omega (arith, e)

later_end : (I : Type 0) (b : Bool) (number n : ℕ) → (if b then record { items = []; bad = None } else bad_at {I = I} number).bad ≡ Some n → number ≤ n
later_end I true number n is = absurd (cc is)
later_end I false number n is = let e : number ≡ n = cc is in omega (arith, e)

-- the first bad line of some lines isn't one before them
pub bad_later : {I : Type 0} (item_of : List ℕ → Option I) (lines : List (List ℕ)) (left number n : ℕ) → (given item_of lines left number).bad ≡ Some n → number ≤ n
bad_later item_of [] left number n is = let e : number ≡ n = cc is in omega (arith, e)
bad_later {I} item_of (line ∷ lines) zero number n is = later_end I (is_end line) number n is
bad_later item_of (line ∷ lines) (suc left) number n is = later_by (item_in item_of line) number n (given item_of lines left (number + 1)) (bad_later item_of lines left (number + 1) n) is

bytes_eq_is : (one other : List ℕ) → bytes_eq one other ≡ true → one ≡ other
bytes_eq_is one other h = let d : Decides true (one ≡ other) = subst (λ b. Decides b (one ≡ other)) h (bytes_eq-Decides one other) in d.0 refl

end_is_short : (line : List ℕ) → is_end line ≡ true → length line ≤ 1200
end_is_short line ended = let same : line ≡ codes "end" = bytes_eq_is line (codes "end") ended in omega (arith, ap length same)

long_is_no_end : (line : List ℕ) → 1200 < length line → is_end line ≡ false
long_is_no_end line long = by (is_end line) refl
  where
    by : (b : Bool) → is_end line ≡ b → is_end line ≡ false
    by true ended = absurd (omega (arith, end_is_short line ended, long))
    by false ended = ended

pub too_long_bad : {I : Type 0} (item_of : List ℕ → Option I) (line : List ℕ) (lines : List (List ℕ)) (left number : ℕ) → 1200 < length line → given item_of (line ∷ lines) left number ≡ bad_at number
too_long_bad item_of line lines zero number long = ap (λ b. if b then record { items = []; bad = None } else bad_at number) (long_is_no_end line long)
too_long_bad item_of line lines (suc left) number long = ap (λ o. given_by o number (given item_of lines left (number + 1))) (too_long_in item_of line long)

-- from the answer for a line to that for a text which begins with it
pub text_gives : {I : Type 0} (item_of : List ℕ → Option I) (text line : List ℕ) (left number : ℕ) (at : Input) (result : Result (Option I) LineStop) → NamesLine text at.held at.left line → LineGives item_of line left number result → GivesItem item_of text left number at result
text_gives item_of text line left number at (Ok (Some item)) names gives = (names.left, ap (λ l. given item_of l left number) names.lines ∙ gives (lines_of (behind_line text)))
text_gives item_of text line left number at (Ok None) names gives = (names.left, ap (λ l. given item_of l left number) names.lines ∙ gives (lines_of (behind_line text)))
text_gives item_of text line left number at (Err (Line bad)) names gives = (gives.0, ap (λ l. given item_of l left number) names.lines ∙ gives.1 (lines_of (behind_line text)))
text_gives item_of text line left number at (Err InputFailed) names gives = absurd gives
text_gives item_of text line left number at (Err (Step stop)) names gives = absurd gives

-- how many items are still to come
pub none_left : {A : Type 0} (item : Option A) (left : ℕ) → (IsSome item ↔ (0 < left)) → item ≡ None → left ≡ 0
none_left item left due is = zero_or left (λ more. cc (due.1 more, is))
  where
    zero_or : (n : ℕ) → (0 < n → ⊥) → n ≡ 0
    zero_or n none = omega (arith, none)

pub some_left : {A : Type 0} (item : Option A) (left : ℕ) → (IsSome item ↔ (0 < left)) → (x : A) → item ≡ Some x → 0 < left
some_left item left due x is = due.0 (ap is_some is)

-- the text behind so many lines, and one line more
pub behind_more : (n m : ℕ) (text : List ℕ) → behind_lines (n + m) text ≡ behind_lines m (behind_lines n text)
behind_more zero m text = let e : 0 + m ≡ m = omega arith in ap (λ k. behind_lines k text) e
behind_more (suc n) m text = let e : suc n + m ≡ suc (n + m) = omega arith in ap (λ k. behind_lines k text) e ∙ behind_more n m (behind_line text)

-- what was handed out up to the end of the first line
abbrev FrontLine : List ℕ → List ℕ → Type 0
FrontLine text behind = (front : List ℕ) × (text ≡ front ++ behind) × (ends front ≤ 1)

front_octet : (b : ℕ) (text : List ℕ) (t : Bool) → nat_eq b 10 ≡ t → FrontLine text (behind_line text) → FrontLine (b ∷ text) (if t then text else behind_line text)
front_octet b text true is f = (b ∷ [], refl, omega (arith, ap (λ c. if c then 1 + ends [] else ends []) is))
front_octet b text false is f = (b ∷ f.0, ap (λ l. b ∷ l) f.1, omega (arith, ap (λ c. if c then 1 + ends f.0 else ends f.0) is, f.2))

pub front_line : (text : List ℕ) → FrontLine text (behind_line text)
front_line [] = ([], refl, omega arith)
front_line (b ∷ text) = front_octet b text (nat_eq b 10) refl (front_line text)

ends_octet : (t : Bool) (a b : ℕ) (whole : ℕ) → whole ≡ a + b → (if t then 1 + whole else whole) ≡ (if t then 1 + a else a) + b
ends_octet true a b whole is = omega (arith, is)
ends_octet false a b whole is = is

pub ends-append : (a b : List ℕ) → ends (a ++ b) ≡ ends a + ends b
ends-append [] b = omega arith
ends-append (x ∷ a) b = ends_octet (nat_eq x 10) (ends a) (ends b) (ends (a ++ b)) (ends-append a b)
