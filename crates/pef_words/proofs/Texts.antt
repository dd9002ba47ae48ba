-- Texts with words, from their front.
use Rattle.std.proofs.Common.{◌≡◌, ◌≢◌, ℕ, ◌<◌, ◌≤◌, Bool, true, false, nat_eq, nat_le, if◌then◌else◌, List, [], ◌∷◌, ◌++◌, length, refl, sym, ◌∙◌, ap, subst, arith, append_assoc, Some, None}
use Rattle.pef_words.specs.declared.said.Said.{Said}
use Rattle.pef_words.specs.Lines.{said_of_line}
use Rattle.std.proofs.lemmas.List.{append-nil, length-append}
use Rattle.std.proofs.lemmas.Bool.{ne_eqb, eqb-true}
use Rattle.std.proofs.lemmas.Bool.Decides.{nat_tests}
use Rattle.pef_words.specs.Worded.{added, behind_tab, end_for, worded_line, worded_from, worded, IsKeptIn}
use Rattle.pef_words.specs.Going.{passed, owed_by, ended_line}

-- no words are put behind a line that is too long
pub long_says_nothing : (line : List ℕ) → 1199 < length line → added line ≡ []
unfolding added
long_says_nothing line long = let test : nat_le (length line) 1199 ≡ false = grind (arith, nat_tests) in rw test refl

-- such a line passes as it is
pub long_passes : (line text : List ℕ) → 1199 < length line → worded_from line text ≡ line ++ passed text
long_passes line [] long = ap (λ a. line ++ end_for a) (long_says_nothing line long)
long_passes line (octet ∷ text) long =
    by (nat_eq octet 10) (eqb-true octet 10) (long_passes (line ++ octet ∷ []) text (omega (arith, length-append line (octet ∷ []), long)))
  where
    ended : worded_line line ++ worded_from [] text ≡ line ++ 10 ∷ worded_from [] text
    ended = ap (λ a. line ++ a ++ 10 ∷ [] ++ worded_from [] text) (long_says_nothing line long)
        ∙ ap (λ l. l ++ 10 ∷ [] ++ worded_from [] text) (append-nil line) ∙ append_assoc line (10 ∷ []) (worded_from [] text)

    by : (t : Bool) → (t ≡ true → octet ≡ 10) → worded_from (line ++ octet ∷ []) text ≡ line ++ octet ∷ [] ++ passed text
        → (if t then worded_line line ++ worded_from [] text else worded_from (line ++ octet ∷ []) text)
        ≡ line ++ octet ∷ (if t then worded_from [] text else passed text)
    by true is next = ended ∙ ap (λ o. line ++ o ∷ worded_from [] text) (sym (is refl))
    by false is next = next ∙ append_assoc line (octet ∷ []) (passed text)

-- a line that isn't too long has the words of what it says
pub short_says : (line : List ℕ) → length line ≤ 1199 → added line ≡ behind_tab (said_of_line line)
unfolding added
short_says line short = let test : nat_le (length line) 1199 ≡ true = grind (arith, nat_tests) in rw test refl

pub ended_is : (passes : Bool) (held : List ℕ) → passes ≡ false → length held ≤ 1199 → held ++ (behind_tab (said_of_line held) ++ 10 ∷ []) ≡ ended_line passes held
ended_is true held is short = absurd (cc is)
ended_is false held is short = ap (λ a. held ++ (a ++ 10 ∷ [])) (sym (short_says held short)) ∙ sym (append_assoc held (added held) (10 ∷ []))

pub last_with_words : (passes : Bool) (held : List ℕ) (said : Said) → passes ≡ false → length held ≤ 1199 → said_of_line held ≡ Some said
    → held ++ (behind_tab (Some said) ++ 10 ∷ []) ≡ owed_by passes held []
last_with_words true held said is short says = absurd (cc is)
last_with_words false held said is short says = ap (λ a. held ++ end_for a) (sym (short_says held short ∙ ap behind_tab says))

pub last_without : (passes : Bool) (held : List ℕ) → passes ≡ false → length held ≤ 1199 → said_of_line held ≡ None → held ++ [] ≡ owed_by passes held []
last_without true held is short says = absurd (cc is)
last_without false held is short says = ap (λ a. held ++ end_for a) (sym (short_says held short ∙ ap behind_tab says))

-- what is owed behind a line's end
pub owed_end : (passes : Bool) (held text : List ℕ) → owed_by passes held (10 ∷ text) ≡ ended_line passes held ++ worded_from [] text
owed_end true held text = sym (append_assoc held (10 ∷ []) (worded_from [] text))
owed_end false held text = refl

-- what is owed where another octet is held
pub owed_octet : (passes : Bool) (held text : List ℕ) (octet : ℕ) → octet ≢ 10 → owed_by passes held (octet ∷ text) ≡ owed_by passes (held ++ octet ∷ []) text
owed_octet true held text octet other = rw (ne_eqb octet 10 other) (sym (append_assoc held (octet ∷ []) (passed text)))
owed_octet false held text octet other = rw (ne_eqb octet 10 other) refl

-- what is owed where no more can be held
pub owed_full : (passes : Bool) (held text : List ℕ) (octet : ℕ) → octet ≢ 10 → 1199 ≤ length held → owed_by passes held (octet ∷ text) ≡ held ++ owed_by true (octet ∷ []) text
owed_full true held text octet other full = rw (ne_eqb octet 10 other) refl
owed_full false held text octet other full =
    owed_octet false held text octet other
    ∙ long_passes (held ++ octet ∷ []) text (omega (arith, length-append held (octet ∷ []), full)) ∙ append_assoc held (octet ∷ []) (passed text)

-- a text with words has each octet of the text
pub kept_from : (line text : List ℕ) → IsKeptIn (line ++ text) (worded_from line text)
kept_from line [] = ((line, end_for (added line)) ∷ [], refl, sym (append-nil (line ++ end_for (added line))))
kept_from line (octet ∷ text) = by (nat_eq octet 10) (eqb-true octet 10) (kept_from [] text) (kept_from (line ++ octet ∷ []) text)
  where
    ended : IsKeptIn text (worded_from [] text) → IsKeptIn (line ++ 10 ∷ text) (worded_line line ++ worded_from [] text)
    ended rest = (
      (line, added line) ∷ (10 ∷ [], []) ∷ rest.0,
      ap (λ l. line ++ 10 ∷ l) rest.1,
      append_assoc (line ++ added line) (10 ∷ []) (worded_from [] text) ∙ ap (λ l. line ++ added line ++ 10 ∷ l) rest.2,
    )

    by : (t : Bool) → (t ≡ true → octet ≡ 10) → IsKeptIn text (worded_from [] text) → IsKeptIn (line ++ octet ∷ [] ++ text) (worded_from (line ++ octet ∷ []) text)
        → IsKeptIn (line ++ octet ∷ text) (if t then worded_line line ++ worded_from [] text else worded_from (line ++ octet ∷ []) text)
    by true is rest next = subst (λ o. IsKeptIn (line ++ o ∷ text) (worded_line line ++ worded_from [] text)) (sym (is refl)) (ended rest)
    by false is rest next = subst (λ l. IsKeptIn l (worded_from (line ++ octet ∷ []) text)) (append_assoc line (octet ∷ []) text) next

pub kept : (text : List ℕ) → IsKeptIn text (worded text)
kept text = kept_from [] text
