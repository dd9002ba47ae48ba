-- A text has lines exactly where it spells them.
use Rattle.std.proofs.Common.{◌≡◌, ◌≢◌, ◌⊎◌, inl, inr, ℕ, true, false, nat_eq, List, [], ◌∷◌, ◌++◌, refl, sym, ◌∙◌, ap, subst, append_assoc}
use Rattle.std.proofs.lemmas.Bool.{false≢true}
use Rattle.std.proofs.lemmas.Bool.Decides.{eqb_tells}
use Rattle.script_text.specs.Lines.{lines_of, begins_with, onto_first, HasNoEnd, IsEnded, SpellsLines}
use Rattle.script_text.proofs.LinesLemmas.{lines_front, lines_last, lines_octet, no_end-push}
use Rattle.script_text.proofs.LastOctet.{without_last-push, without_last-kept}

ended_lines : (line rest text : List ℕ) → HasNoEnd line → IsEnded line rest text → lines_of text ≡ line ∷ lines_of rest
ended_lines line rest text none (inl (is, other)) =
    ap lines_of is ∙ lines_front line rest none ∙ ap (λ l. l ∷ lines_of rest) (without_last-kept 13 line other)
ended_lines line rest text none (inr is) =
    ap lines_of (is ∙ sym (append_assoc line (13 ∷ []) (10 ∷ rest))) ∙ lines_front (line ++ 13 ∷ []) rest (no_end-push line 13 none (λ e. cc e))
    ∙ ap (λ l. l ∷ lines_of rest) (without_last-push 13 line)

last_lines : (line text : List ℕ) → HasNoEnd line → text ≡ line → line ≢ [] → lines_of text ≡ line ∷ []
last_lines [] text none is some = absurd (some refl)
last_lines (b ∷ line) text none is some = ap lines_of is ∙ lines_last b line none

pub spelled_lines : (lines : List (List ℕ)) (text : List ℕ) → SpellsLines lines text → lines_of text ≡ lines
spelled_lines [] text is = ap lines_of is
spelled_lines (line ∷ lines) text (none, inl (rest, ended, more)) = ended_lines line rest text none ended ∙ ap (λ l. line ∷ l) (spelled_lines lines rest more)
spelled_lines (line ∷ lines) text (none, inr (no_more, is, some)) = last_lines line text none is some ∙ ap (λ l. line ∷ l) (sym no_more)

-- an octet that isn't part of a line's end, in front of a text
front_kept : (b : ℕ) (line rest text : List ℕ) → (b ≡ 13 → begins_with 10 text ≡ false) → text ≡ line ++ 10 ∷ rest → ((front : List ℕ) → line ≢ front ++ 13 ∷ []) → (front : List ℕ) → b ∷ line ≢ front ++ 13 ∷ []
front_kept b [] rest text part is other [] e = let begins : begins_with 10 text ≡ true = ap (begins_with 10) is in let b13 : b ≡ 13 = cc in false≢true (sym (part b13) ∙ begins)
front_kept b (a ∷ line) rest text part is other [] e = cc e
front_kept b line rest text part is other (a ∷ front) e = let tail : line ≡ front ++ 13 ∷ [] = cc in other front tail

octet_spelled : (b : ℕ) (text : List ℕ) (lines : List (List ℕ)) → b ≢ 10 → (b ≡ 13 → begins_with 10 text ≡ false) → SpellsLines lines text → SpellsLines (onto_first b lines) (b ∷ text)
octet_spelled b text [] other part is = ((other, tt), inr (refl, ap (λ t. b ∷ t) is, λ e. cc e))
octet_spelled b text (line ∷ lines) other part (none, inl (rest, inl (is, ends), more)) =
    ((other, none), inl (rest, inl (ap (λ t. b ∷ t) is, front_kept b line rest text part is ends), more))
octet_spelled b text (line ∷ lines) other part (none, inl (rest, inr is, more)) = ((other, none), inl (rest, inr (ap (λ t. b ∷ t) is), more))
octet_spelled b text (line ∷ lines) other part (none, inr (no_more, is, some)) = ((other, none), inr (no_more, ap (λ t. b ∷ t) is, λ e. cc e))

abbrev Tells : ℕ → ℕ → Type 0
Tells b n = ((nat_eq b n ≡ true) × (b ≡ n)) ⊎ ((nat_eq b n ≡ false) × (b ≢ n))

-- the three cases of an octet: 0Ah, 0Dh before 0Ah, another
begun : (b : ℕ) (text : List ℕ) → Tells b 10 → Tells b 13 → SpellsLines (lines_of text) text
    → ((rest : List ℕ) → text ≡ 10 ∷ rest → SpellsLines (lines_of rest) rest)
    → SpellsLines (lines_of (b ∷ text)) (b ∷ text)
begun b text (inl end) tells spelled behind = rw end.0 (tt, inl (text, inl (ap (λ n. n ∷ text) end.1, nil_ends), spelled))
  where
    nil_ends : (front : List ℕ) → [] ≢ front ++ 13 ∷ []
    nil_ends [] e = cc e
    nil_ends (a ∷ front) e = cc e
begun b [] (inr other) tells spelled behind = subst (λ l. SpellsLines l (b ∷ [])) (sym (lines_octet b [] other.1 refl)) (octet_spelled b [] [] other.1 (λ e. refl) refl)
begun b (c ∷ rest) (inr other) (inr plain) spelled behind =
    rw other.0 (rw plain.0 (octet_spelled b (c ∷ rest) (lines_of (c ∷ rest)) other.1 (λ e. absurd (plain.1 e)) spelled))
begun b (c ∷ rest) (inr other) (inl return) spelled behind = by (eqb_tells c 10)
  where
    by : Tells c 10 → SpellsLines (lines_of (b ∷ c ∷ rest)) (b ∷ c ∷ rest)
    by (inl end) = rw other.0 (rw return.0 (rw end.0 (tt, inl (rest, inr (ap (λ n. n ∷ c ∷ rest) return.1 ∙ ap (λ n. 13 ∷ n ∷ rest) end.1), behind rest (ap (λ n. n ∷ rest) end.1)))))
    by (inr apart) = subst (λ l. SpellsLines l (b ∷ c ∷ rest)) (sym (lines_octet b (c ∷ rest) other.1 apart.0)) (octet_spelled b (c ∷ rest) (lines_of (c ∷ rest)) other.1 (λ e. apart.0) spelled)

spelled_here : (text : List ℕ) → SpellsLines (lines_of text) text × ((b : ℕ) (rest : List ℕ) → text ≡ b ∷ rest → SpellsLines (lines_of rest) rest)
spelled_here [] = (refl, λ b rest e. absurd (cc e))
spelled_here (b ∷ text) =
    let here = spelled_here text in (
      begun b text (eqb_tells b 10) (eqb_tells b 13) here.0 (λ rest is. here.1 10 rest is),
      λ a rest e. let tail : text ≡ rest = cc in subst (λ t. SpellsLines (lines_of t) t) tail here.0,
    )

pub lines_are_spelled : (text : List ℕ) (lines : List (List ℕ)) → lines_of text ≡ lines → SpellsLines lines text
lines_are_spelled text lines are = subst (λ l. SpellsLines l text) are (spelled_here text).0
