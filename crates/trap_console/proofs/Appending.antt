-- Writing one line after another.
use Rattle.std.proofs.Common.{◌≡◌, ℕ, ◌+◌, List, ◌∷◌, ◌++◌, Option, Some, None, Result, Ok, Err, refl, sym, ◌∙◌, ap, subst, append_assoc}
use Rattle.board_core.specs.Source.{Appends}
use Rattle.trap_console.specs.declared.row.Row.{Row}
use Rattle.trap_console.specs.Listing.{row_line, lines_behind}

-- a part that was written, and then another
appends_then : {E : Type 0} (a b : List ℕ) (old mid new : Option (List ℕ)) (done : Result Unit E) (result : Result Unit E) → done ≡ Ok tt
    → Appends a old mid done → Appends b mid new result → Appends (a ++ b) old new result
appends_then a b old mid new (Err e) result is first second = absurd (cc is)
appends_then a b (Some o) (Some m) (Some n) (Ok x) (Ok y) is first second = second ∙ ap (λ l. l ++ b) first ∙ append_assoc o a b
appends_then a b (Some o) (Some m) (Some n) (Ok x) (Err e) is first second =
    (a ++ second.0, second.1, append_assoc a second.0 second.1 ∙ ap (λ l. a ++ l) second.2, second.3 ∙ ap (λ l. l ++ second.0) first ∙ append_assoc o a second.0)
appends_then a b (Some o) (Some m) None (Ok x) result is first second = absurd second
appends_then a b (Some o) None new (Ok x) result is first second = absurd first
appends_then a b None (Some m) new (Ok x) result is first second = absurd first
appends_then a b None None (Some n) (Ok x) result is first second = absurd second
appends_then a b None None None (Ok x) result is first second = tt

-- a part that wasn't written whole, of more
appends_more : {E : Type 0} (a b : List ℕ) (old new : Option (List ℕ)) (e : E) → Appends a old new (Err e) → Appends (a ++ b) old new (Err e)
appends_more a b (Some o) (Some n) e failed = (failed.0, failed.1 ++ b, sym (append_assoc failed.0 failed.1 b) ∙ ap (λ l. l ++ b) failed.2, failed.3)
appends_more a b (Some o) None e failed = absurd failed
appends_more a b None (Some n) e failed = absurd failed
appends_more a b None None e failed = tt

module _ {E : Type 0} (number : ℕ) (row : Row) (behind : List Row) where
  -- a line that was written, and then those of the rows behind it
  pub line_then : (rows : List Row) (line : List ℕ) (old mid new : Option (List ℕ)) (result : Result Unit E) → rows ≡ row ∷ behind → line ≡ row_line (number + 1) row
      → Appends {E = E} line old mid (Ok tt) → Appends (lines_behind (number + 1) behind) mid new result → Appends (lines_behind number rows) old new result
  line_then rows line old mid new result split is first rest =
      subst (λ r. Appends (lines_behind number r) old new result) (sym split)
      (appends_then (row_line (number + 1) row) (lines_behind (number + 1) behind) old mid new (Ok tt) result refl (subst (λ l. Appends {E = E} l old mid (Ok tt)) is first) rest)

  -- a line that wasn't written whole
  pub line_fails : (rows : List Row) (line : List ℕ) (old new : Option (List ℕ)) (e : E) → rows ≡ row ∷ behind → line ≡ row_line (number + 1) row
      → Appends line old new (Err e) → Appends (lines_behind number rows) old new (Err e)
  line_fails rows line old new e split is failed =
      subst (λ r. Appends (lines_behind number r) old new (Err e)) (sym split)
      (appends_more (row_line (number + 1) row) (lines_behind (number + 1) behind) old new e (subst (λ l. Appends l old new (Err e)) is failed))
