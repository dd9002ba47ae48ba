-- What a crash leaves while a file is formatted.
use Rattle.std.proofs.Common.{◌≡◌, ◌≢◌, ◌⊎◌, inl, inr, ℕ, ◌+◌, ◌/◌, ◌%◌, ◌≤◌, IsTrue, List, [], ◌∷◌, ◌++◌, length, get_or, take, drop, refl, sym, ◌∙◌, ap, subst, arith, append_assoc, length-append}
use Rattle.std.proofs.lemmas.Bool.{cases_eq}
use Rattle.std.proofs.lemmas.List.{drop_more, drop-drop}
use Rattle.board_core.specs.Board.{BoardView, CrashState, IsSound, IsFileRun, Reads, LeavesOnly, Torn, Holds, Only}
use Rattle.pef_journal.specs.declared.kind.FileKind.{FileKind}
use Rattle.pef_journal.specs.Image.{header, HasSettingsLength, IsForKind, IsFormatted, IsMarked, Stands}
use Rattle.pef_journal.specs.Format.{body, MayBeMarked, IsUnmarked, IsSameOrUnmarked, LeavesUnmarked, LeavesMaking}
use Rattle.pef_journal.proofs.Moments.{started, goes_on, leaves_map, leaves_compose, steps_same, steps_along}
use Rattle.pef_journal.specs.Journal.{LeavesTorn}

-- a formatted file is marked
marked : (kind : FileKind) (file : List ℕ) → IsForKind kind file → IsMarked file
marked kind file is = (drop 1 (header kind is.0 ++ is.1), is.2.1, omega arith)

-- so one that isn't marked is formatted as no kind
pub unmarked_unformatted : (kinds : List FileKind) (file : List ℕ) → (IsMarked file → ⊥) → IsFormatted kinds file → ⊥
unmarked_unformatted [] file not is = is
unmarked_unformatted (kind ∷ kinds) file not (inl is) = not (marked kind file is)
unmarked_unformatted (kind ∷ kinds) file not (inr is) = unmarked_unformatted kinds file not is

unmarked : (octet : ℕ) (rest : List ℕ) → octet ≢ 165 → IsMarked (octet ∷ rest) → ⊥
unmarked octet rest other is = other (ap (λ l. get_or l 0 0) is.1)

-- a list with an octet is that octet and the rest
first_and_rest : (c : List ℕ) → 1 ≤ length c → c ≡ get_or c 0 0 ∷ drop 1 c
first_and_rest c some = drop_more c 0 0 some

-- a write of octet 0 that a crash cuts short
torn_mark : (old c : List ℕ) → MayBeMarked old → Torn 0 1 old c → IsSameOrUnmarked old c
torn_mark old c (inl empty) torn = inr (λ mark. omega (arith, mark.2, ap length mark.1, torn.no_longer, ap length empty))
torn_mark old c (inr was) torn =
    let c_is : c ≡ get_or c 0 0 ∷ drop 1 old = first_and_rest c (omega (arith, torn.no_shorter, ap length was.1)) ∙ ap (λ l. get_or c 0 0 ∷ l) torn.after in
    elim (cases_eq (get_or c 0 0) 165) [
      | inl is ↦ inl (c_is ∙ (λ i. is i ∷ drop 1 old) ∙ ap (λ l. 165 ∷ drop 1 l) was.1 ∙ sym was.1)
      | inr other ↦ inr (subst (λ l. IsMarked l → ⊥) (sym c_is) (unmarked (get_or c 0 0) (drop 1 old) other))
    ]

module _ (v w : BoardView) (sound : IsSound v) (sound_w : IsSound w) (lasting : IsTrue v.tells → Only v.octets v.images) (reads : Reads v w) where
  pub only_read : IsTrue w.tells → Only w.octets w.images
  only_read tells c now = lasting (reads.call.run.tells tells) c ((reads.images tells c).0 now) ∙ sym (reads.octets tells)

  pub after_read : IsTrue w.tells → LeavesOnly v w (LeavesUnmarked v)
  after_read tells =
      let tells_v = reads.call.run.tells tells in
      goes_on v v w (LeavesUnmarked v)
      (started v (LeavesUnmarked v) sound tells_v (λ left now. (record { issued = now.issued; told = now.told }, inl (lasting tells_v left.image now.image))))
      reads.call sound_w tells
      (λ left now. (steps_same v w left (reads.call.run.sent tells) now, inl (only_read tells left.image now.image ∙ reads.octets tells)))

  module _ (x : BoardView) (may : IsTrue w.tells → MayBeMarked v.octets) (run : IsFileRun w x) where
    pub after_clear : IsTrue x.tells → LeavesOnly w x (LeavesTorn 0 1 w) → LeavesOnly v x (LeavesUnmarked v)
    after_clear tells torn = leaves_compose v w x (LeavesUnmarked v) (LeavesTorn 0 1 w) (after_read tells_w) torn left_torn
      where
        tells_w : IsTrue w.tells
        tells_w = run.tells tells

        left_torn : (left : CrashState) → LeavesTorn 0 1 w left → LeavesUnmarked v left
        left_torn left is = (
          steps_along v w left (reads.call.run.sent tells_w) is.3,
          torn_mark v.octets left.image (may tells_w) (subst (λ l. Torn 0 1 l left.image) (only_read tells_w is.0 is.1 ∙ reads.octets tells_w) is.2),
        )

    pub cleared : IsTrue x.tells → Holds w.octets 0 (0 ∷ []) x.octets → IsUnmarked v.octets x.octets
    cleared tells holds = (0, λ clash. absurd (cc clash), holds ∙ ap (λ l. 0 ∷ drop 1 l) (reads.octets (run.tells tells)))

-- ---- behind the mark

module _ (kind : FileKind) (Z : List ℕ) (v a : BoardView) (fits : HasSettingsLength kind Z) (so_far : LeavesOnly v a (LeavesUnmarked v)) (run : IsFileRun v a) (tells_a : IsTrue a.tells) (is_unmarked : IsUnmarked v.octets a.octets) (only : Only a.octets a.images) where
  abbrev Leaves : CrashState → Type 0
  Leaves = LeavesMaking kind Z v

  abbrev IsMaking : List ℕ → Type 0
  IsMaking file = IsSameOrUnmarked v.octets file ⊎ Stands kind Z [] file

  abbrev old_tail : List ℕ
  old_tail = drop (5 + length Z) v.octets

  -- the file with this octet before the header's rest
  abbrev staged : ℕ → List ℕ
  staged mark = mark ∷ (body kind Z ++ old_tail)

  stands_staged : staged 165 ≡ header kind Z ++ 0 ∷ old_tail
  stands_staged = ap (λ l. 165 ∷ kind.number ∷ (length Z % 256) ∷ (length Z / 256) ∷ l) (append_assoc Z (0 ∷ []) old_tail)

  stands : Stands kind Z [] (staged 165)
  stands = (0 ∷ old_tail, (fits, stands_staged, λ none. absurd (omega (arith, ap length none))), (0, old_tail, refl, λ clash. absurd (cc clash)))

  either_mark : (mark : ℕ) → IsMaking (staged mark)
  either_mark mark = elim (cases_eq mark 165) [
    | inl is ↦ inr (subst (λ m. Stands kind Z [] (staged m)) (sym is) stands)
    | inr other ↦ inl (inr (unmarked mark (body kind Z ++ old_tail) other))
  ]

  before_body : LeavesOnly v a Leaves
  before_body = leaves_map v a (LeavesUnmarked v) Leaves (λ left was. (was.0, inl was.1)) so_far

  -- the first write leaves octet 0
  torn_body : (n : ℕ) (c : List ℕ) → Torn 1 n a.octets c → IsMarked c → ⊥
  torn_body n c torn mark = is_unmarked.1 (ap (λ l. get_or l 0 0) (sym (ap (take 1) is_unmarked.2) ∙ sym torn.before ∙ ap (take 1) mark.1))

  module _ (b : BoardView) (octets : List ℕ) (torn_b : LeavesOnly a b (LeavesTorn 1 (length octets) a)) where
    pub after_body : LeavesOnly v b Leaves
    after_body = leaves_compose v a b Leaves (LeavesTorn 1 (length octets) a) before_body torn_b first
      where
        first : (left : CrashState) → LeavesTorn 1 (length octets) a left → Leaves left
        first left is = (
          steps_along v a left (run.sent tells_a) is.3,
          inl (inr (torn_body (length octets) left.image (subst (λ f. Torn 1 (length octets) f left.image) (only is.0 is.1) is.2))),
        )

    module _ (is_body : octets ≡ body kind Z) (run_b : IsFileRun a b) (tells_b : IsTrue b.tells) (holds : Holds a.octets 1 octets b.octets) (only_b : Only b.octets b.images) where
      tail_is : drop (1 + length (body kind Z)) a.octets ≡ old_tail
      tail_is =
          let more : 1 + length (body kind Z) ≡ 1 + (4 + length Z) = omega (arith, length-append Z (0 ∷ [])) in
          let all : 1 + (4 + length Z) ≡ 5 + length Z = omega arith in
          ap (λ k. drop k a.octets) more ∙ sym (drop-drop (4 + length Z) 1 a.octets) ∙ ap (drop (4 + length Z)) (ap (drop 1) is_unmarked.2) ∙ drop-drop (4 + length Z) 1 v.octets ∙ ap (λ k. drop k v.octets) all

      staged_b : b.octets ≡ staged is_unmarked.0
      staged_b = subst (λ l. Holds a.octets 1 l b.octets) is_body holds ∙ ap (λ l. (take 1 a.octets ++ body kind Z) ++ l) tail_is ∙ ap (λ l. (take 1 l ++ body kind Z) ++ old_tail) is_unmarked.2

      torn_last : (i : List ℕ) → Torn 0 1 b.octets i → IsMaking i
      torn_last i torn =
          let some : 1 ≤ length i = omega (arith, torn.no_shorter, ap length staged_b) in
          let is : i ≡ staged (get_or i 0 0) = first_and_rest i some ∙ ap (λ l. get_or i 0 0 ∷ l) (torn.after ∙ ap (drop 1) staged_b) in
          subst IsMaking (sym is) (either_mark (get_or i 0 0))

      pub after_mark : (c : BoardView) → LeavesOnly b c (LeavesTorn 0 1 b) → LeavesOnly v c Leaves
      after_mark c torn_c = leaves_compose v b c Leaves (LeavesTorn 0 1 b) after_body torn_c second
        where
          second : (left : CrashState) → LeavesTorn 0 1 b left → Leaves left
          second left is = (
            steps_along v b left (run_b.sent tells_b ∙ run.sent tells_a) is.3,
            torn_last left.image (subst (λ f. Torn 0 1 f left.image) (only_b is.0 is.1) is.2),
          )

      pub formatted : (c : BoardView) → Holds b.octets 0 (165 ∷ []) c.octets → c.octets ≡ header kind Z ++ 0 ∷ old_tail
      formatted c holds_c = holds_c ∙ ap (λ l. 165 ∷ drop 1 l) staged_b ∙ stands_staged

  pub stands_empty : (file : List ℕ) → file ≡ header kind Z ++ 0 ∷ old_tail → Stands kind Z [] file
  stands_empty file is = subst (Stands kind Z []) (stands_staged ∙ sym is) stands
