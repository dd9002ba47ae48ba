-- The lines of a text from its front.
use Rattle.std.proofs.Common.{◌≡◌, ◌≢◌, ℕ, zero, suc, ◌<◌, ◌≤◌, Bool, true, false, ◌&&◌, nat_eq, if◌then◌else◌, List, [], ◌∷◌, ◌++◌, length, take, drop, Option, Some, None, refl, sym, ◌∙◌, ap, subst, arith, append_assoc, slice_index_or, IsTrue, ◌↔◌}
use Rattle.std.proofs.lemmas.List.{append-nil}
use Rattle.std.proofs.lemmas.Bool.{ne_eqb, false≢true}
use Rattle.script_text.specs.Lines.{lines_of, begins_with, onto_first, without_last, behind_line, ends, HasNoEnd}
use Rattle.script_text.specs.Reading.{HasLeft, IsTooLong, GivesOctet, Finds, FailsWithin}
use Rattle.script_text.proofs.Read.{IsReading}
use Rattle.script_text.specs.declared.reader.Found.{Found}
use Rattle.script_text.specs.declared.reader.Found.TheVariants.{Line, TooLong, End}

-- an octet that ends no line goes onto the first line of the rest
pub lines_octet : (b : ℕ) (text : List ℕ) → b ≢ 10 → begins_with 10 text ≡ false → lines_of (b ∷ text) ≡ onto_first b (lines_of text)
lines_octet b text other none = rw (ne_eqb b 10 other) (rw none (by (nat_eq b 13)))
  where
    by : (t : Bool) → (if t && false then lines_of text else onto_first b (lines_of text)) ≡ onto_first b (lines_of text)
    by true = refl
    by false = refl

pub lines_front : (line rest : List ℕ) → HasNoEnd line → lines_of (line ++ 10 ∷ rest) ≡ without_last 13 line ∷ lines_of rest
lines_front [] rest none = refl
lines_front (b ∷ []) rest none = rw (ne_eqb b 10 none.0) (by (nat_eq b 13))
  where
    by : (t : Bool) → (if t && true then [] ∷ lines_of rest else (b ∷ []) ∷ lines_of rest) ≡ (if t then [] else b ∷ []) ∷ lines_of rest
    by true = refl
    by false = refl
lines_front (b ∷ c ∷ line) rest none =
    lines_octet b (c ∷ line ++ 10 ∷ rest) none.0 (ne_eqb c 10 none.1.0) ∙ ap (onto_first b) (lines_front (c ∷ line) rest none.1)

pub lines_last : (b : ℕ) (line : List ℕ) → HasNoEnd (b ∷ line) → lines_of (b ∷ line) ≡ (b ∷ line) ∷ []
lines_last b [] none = lines_octet b [] none.0 refl
lines_last b (c ∷ line) none = lines_octet b (c ∷ line) none.0 (ne_eqb c 10 none.1.0) ∙ ap (onto_first b) (lines_last c line none.1)

-- the first of these lines has at least n octets
pub record BeginsLong (n : ℕ) (all : List (List ℕ)) : Type 0 where
  pub line : List ℕ
  pub more : List (List ℕ)
  pub lines : all ≡ line ∷ more
  pub long : n ≤ length line

onto_long : (b n : ℕ) (lines : List (List ℕ)) → BeginsLong n lines → BeginsLong (suc n) (onto_first b lines)
onto_long b n lines long = record { line = b ∷ long.line; more = long.more; lines = ap (onto_first b) long.lines; long = omega (arith, long.long) }

any_long : (lines : List (List ℕ)) (b : ℕ) → BeginsLong 1 (onto_first b lines)
any_long [] b = record { line = b ∷ []; more = []; lines = refl; long = omega arith }
any_long (l ∷ lines) b = record { line = b ∷ l; more = lines; lines = refl; long = omega arith }

-- behind some octets that end no line and one more the first line has at least these
pub lines_long : (a : ℕ) (line rest : List ℕ) (b : ℕ) → HasNoEnd (a ∷ line) → b ≢ 10 → BeginsLong (length (a ∷ line)) (lines_of ((a ∷ line) ++ b ∷ rest))
lines_long a [] rest b none other =
    subst (BeginsLong 1) (sym (lines_octet a (b ∷ rest) none.0 (ne_eqb b 10 other))) (any_long (lines_of (b ∷ rest)) a)
lines_long a (c ∷ line) rest b none other =
    subst (BeginsLong (length (a ∷ c ∷ line))) (sym (lines_octet a (c ∷ line ++ b ∷ rest) none.0 (ne_eqb c 10 none.1.0)))
    (onto_long a (length (c ∷ line)) (lines_of (c ∷ line ++ b ∷ rest)) (lines_long c line rest b none.1 other))

pub no_end-push : (line : List ℕ) (b : ℕ) → HasNoEnd line → b ≢ 10 → HasNoEnd (line ++ b ∷ [])
no_end-push [] b none other = (other, tt)
no_end-push (a ∷ line) b none other = (none.0, no_end-push line b none.1 other)

-- what is held between two places of a chunk
pub held_none : (chunk : List ℕ) (at end : ℕ) → at ≡ end → drop at (take end chunk) ≡ []
held_none [] zero zero e = refl
held_none [] zero (suc end) e = refl
held_none [] (suc at) zero e = refl
held_none [] (suc at) (suc end) e = refl
held_none (x ∷ chunk) zero zero e = refl
held_none (x ∷ chunk) zero (suc end) e = absurd (omega (arith, e))
held_none (x ∷ chunk) (suc at) zero e = absurd (omega (arith, e))
held_none (x ∷ chunk) (suc at) (suc end) e = held_none chunk at end (omega (arith, e))

pub held_some : (chunk : List ℕ) (at end : ℕ) → at < end → end ≤ length chunk → drop at (take end chunk) ≡ slice_index_or chunk at 0 ∷ drop (suc at) (take end chunk)
held_some [] at end before fits = absurd (omega (arith, before, fits))
held_some (x ∷ chunk) at zero before fits = absurd (omega (arith, before))
held_some (x ∷ chunk) zero (suc end) before fits = refl
held_some (x ∷ chunk) (suc at) (suc end) before fits = held_some chunk at end (omega (arith, before)) (omega (arith, fits))

-- one octet is handed out
pub gives_octet : (text held next : List ℕ) (source : Option (List ℕ)) (octet : ℕ) → held ≡ octet ∷ next → HasLeft held source text → GivesOctet text next source (Some octet)
gives_octet text held next source octet is left =
    (next ++ left.rest, left.whole ∙ ap (λ l. l ++ left.rest) is, record { rest = left.rest; unread = left.unread; whole = refl })

pub gives_none : (text held : List ℕ) (source : Option (List ℕ)) → held ≡ [] → (held ≡ [] → text ≡ []) → HasLeft held source text → GivesOctet text held source None
gives_none text held source is over left = (over is, subst (HasLeft held source) (over is) left)

-- reading goes on
pub reading_start : (text held : List ℕ) (source : Option (List ℕ)) → HasLeft held source text → IsReading text held source []
reading_start text held source left = record { rest = text; left = left; whole = refl }

pub reading_octet : (text line held next : List ℕ) (source after : Option (List ℕ)) (octet : ℕ) → (r : IsReading text held source line) → GivesOctet r.rest next after (Some octet) → IsReading text next after (line ++ octet ∷ [])
reading_octet text line held next source after octet r gives = record {
  rest = gives.0;
  left = gives.2;
  whole = r.whole ∙ ap (λ l. line ++ l) gives.1 ∙ sym (append_assoc line (octet ∷ []) gives.0);
}

pub reading_over : (text line held next : List ℕ) (source after : Option (List ℕ)) → (r : IsReading text held source line) → GivesOctet r.rest next after None → text ≡ line
reading_over text line held next source after r gives = r.whole ∙ ap (λ l. line ++ l) gives.0 ∙ append-nil line

-- what is behind a line that was read
behind_front : (line rest : List ℕ) → HasNoEnd line → behind_line (line ++ 10 ∷ rest) ≡ rest
behind_front [] rest none = refl
behind_front (b ∷ line) rest none = rw (ne_eqb b 10 none.0) (behind_front line rest none.1)

behind_last : (line : List ℕ) → HasNoEnd line → behind_line line ≡ []
behind_last [] none = refl
behind_last (b ∷ line) none = rw (ne_eqb b 10 none.0) (behind_last line none.1)

no_ends : (line : List ℕ) → HasNoEnd line → ends line ≡ 0
no_ends [] none = refl
no_ends (b ∷ line) none = rw (ne_eqb b 10 none.0) (no_ends line none.1)

-- what was read is the next line
pub record IsNext (text held : List ℕ) (source : Option (List ℕ)) (line : List ℕ) : Type 0 where
  pub left : HasLeft held source (behind_line text)
  pub lines : lines_of text ≡ line ∷ lines_of (behind_line text)

pub next_ended : (text line held next : List ℕ) (source after : Option (List ℕ)) → (r : IsReading text held source line) → HasNoEnd line → GivesOctet r.rest next after (Some 10) → IsNext text next after (without_last 13 line)
next_ended text line held next source after r none gives =
    let is = r.whole ∙ ap (λ l. line ++ l) gives.1 in
    let behind = sym (ap behind_line is ∙ behind_front line gives.0 none) in record {
      left = subst (HasLeft next after) behind gives.2;
      lines = ap lines_of is ∙ lines_front line gives.0 none ∙ ap (λ l. without_last 13 line ∷ lines_of l) behind;
    }

pub next_last : (text line held next : List ℕ) (source after : Option (List ℕ)) → (r : IsReading text held source line) → HasNoEnd line → line ≢ [] → GivesOctet r.rest next after None → IsNext text next after line
next_last text [] held next source after r none some gives = absurd (some refl)
next_last text (b ∷ line) held next source after r none some gives =
    let is = reading_over text (b ∷ line) held next source after r gives in
    let behind = sym (ap behind_line is ∙ behind_last (b ∷ line) none) in record {
      left = subst (HasLeft next after) behind gives.1;
      lines = ap lines_of is ∙ lines_last b line none ∙ ap (λ l. (b ∷ line) ∷ lines_of l) behind;
    }

pub finds : (text line held : List ℕ) (source : Option (List ℕ)) (found : Found) → (found ≡ Line → length line ≤ 1200) → (found ≡ TooLong → 1200 < length line) → (found ≡ End → ⊥)
    → IsNext text held source line → Finds text held source line found
finds text line held source Line fits long other next = record { left = next.left; lines = next.lines; fits = fits refl }
finds text line held source TooLong fits long other next = record { line = line; more = lines_of (behind_line text); lines = next.lines; long = long refl }
finds text line held source End fits long other next = absurd (other refl)

-- at the end of the text
pub finds_last : (text line held next : List ℕ) (source after : Option (List ℕ)) (found : Found) → (found ≡ Line → (line ≢ []) × (length line ≤ 1200)) → (found ≡ TooLong → 1200 < length line) → (found ≡ End → line ≡ [])
    → (r : IsReading text held source line) → HasNoEnd line → GivesOctet r.rest next after None → Finds text next after line found
finds_last text line held next source after Line fits long over r none gives =
    let is = next_last text line held next source after r none (fits refl).0 gives in record { left = is.left; lines = is.lines; fits = (fits refl).1 }
finds_last text line held next source after TooLong fits long over r none gives =
    let more = long refl in
    let is = next_last text line held next source after r none (λ e. omega (arith, more, ap length e)) gives in record { line = line; more = lines_of (behind_line text); lines = is.lines; long = more }
finds_last text line held next source after End fits long over r none gives = ap lines_of (reading_over text line held next source after r gives ∙ over refl)

-- where a read fails no whole line was handed out
pub fails_within : (text line held : List ℕ) (source after : Option (List ℕ)) → (r : IsReading text held source line) → HasNoEnd line → after ≡ Some r.rest → FailsWithin text after
fails_within text line held source after r none unread = record { left = r.rest; unread = unread; front = line; whole = r.whole; no_end = no_ends line none }

pub too_long : (text line held next : List ℕ) (source after : Option (List ℕ)) (octet : ℕ) → (r : IsReading text held source line) → HasNoEnd line → octet ≢ 10 → 1201 ≤ length line → GivesOctet r.rest next after (Some octet) → IsTooLong text
too_long text [] held next source after octet r none other long gives = absurd (omega (arith, long))
too_long text (a ∷ line) held next source after octet r none other long gives =
    let l = lines_long a line gives.0 octet none other in record {
      line = l.line;
      more = l.more;
      lines = ap lines_of (r.whole ∙ ap (λ k. a ∷ line ++ k) gives.1) ∙ l.lines;
      long = omega (arith, l.long, long);
    }

pub not_below : (m n : ℕ) (t : Bool) → t ≡ false → IsTrue t ↔ (m < n) → n ≤ m
not_below m n t refused room = let h : (m < n) → ⊥ = λ below. false≢true (subst IsTrue refused (room.1 below)) in omega (arith, h)
