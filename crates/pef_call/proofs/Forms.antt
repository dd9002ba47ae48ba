-- What so many words ask for.
use Rattle.std.proofs.Common.{◌≡◌, ◌<◌, ◌≤◌, ℕ, List, [], ◌∷◌, map, length, get_or, option_map, None, refl, sym, ap, arith}
use Rattle.script_text.specs.Forms.{address_of}
use Rattle.pef_call.specs.Words.{paths_of, one_file, two_files, form_named, lone_form_named, fed_form_named, fed_paths, arrivals_of}

module _ {A : Type 0} (spelled : A → List ℕ) where
  pub of_two : (words : List A) (word : A) → 2 ≤ length words → length words < 3 → word ≡ get_or words 0 word → paths_of (map spelled words) ≡ option_map one_file (lone_form_named (spelled word))
  of_two [] word least most is = absurd (omega (arith, least))
  of_two (one ∷ []) word least most is = absurd (omega (arith, least))
  of_two (one ∷ two ∷ []) word least most is = ap (λ w. option_map one_file (lone_form_named (spelled w))) (sym is)
  of_two (one ∷ two ∷ three ∷ words) word least most is = absurd (omega (arith, most))

  pub of_three : (words : List A) (word : A) → 3 ≤ length words → length words < 4 → word ≡ get_or words 0 word → paths_of (map spelled words) ≡ option_map two_files (form_named (spelled word))
  of_three [] word least most is = absurd (omega (arith, least))
  of_three (one ∷ []) word least most is = absurd (omega (arith, least))
  of_three (one ∷ two ∷ []) word least most is = absurd (omega (arith, least))
  of_three (one ∷ two ∷ three ∷ []) word least most is = ap (λ w. option_map two_files (form_named (spelled w))) (sym is)
  of_three (one ∷ two ∷ three ∷ four ∷ words) word least most is = absurd (omega (arith, most))

  pub of_four : (words : List A) (word at number : A) → 4 ≤ length words → length words < 5 → word ≡ get_or words 0 word → at ≡ get_or words 2 at → number ≡ get_or words 3 number
      → paths_of (map spelled words) ≡ fed_paths (fed_form_named (spelled word)) (address_of (spelled at)) (arrivals_of (spelled number))
  of_four [] word at number least most is is_at is_number = absurd (omega (arith, least))
  of_four (one ∷ []) word at number least most is is_at is_number = absurd (omega (arith, least))
  of_four (one ∷ two ∷ []) word at number least most is is_at is_number = absurd (omega (arith, least))
  of_four (one ∷ two ∷ three ∷ []) word at number least most is is_at is_number = absurd (omega (arith, least))
  of_four (one ∷ two ∷ three ∷ four ∷ []) word at number least most is is_at is_number =
      rw is (rw is_at (rw is_number refl))
  of_four (one ∷ two ∷ three ∷ four ∷ five ∷ words) word at number least most is is_at is_number = absurd (omega (arith, most))

  pub of_fewer : (words : List A) → length words < 2 → None ≡ paths_of (map spelled words)
  of_fewer [] few = refl
  of_fewer (one ∷ []) few = refl
  of_fewer (one ∷ two ∷ words) few = absurd (omega (arith, few))

  pub of_more : (words : List A) → 5 ≤ length words → None ≡ paths_of (map spelled words)
  of_more [] more = absurd (omega (arith, more))
  of_more (one ∷ []) more = absurd (omega (arith, more))
  of_more (one ∷ two ∷ []) more = absurd (omega (arith, more))
  of_more (one ∷ two ∷ three ∷ []) more = absurd (omega (arith, more))
  of_more (one ∷ two ∷ three ∷ four ∷ []) more = absurd (omega (arith, more))
  of_more (one ∷ two ∷ three ∷ four ∷ five ∷ words) more = refl
