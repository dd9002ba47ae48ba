-- What a crash leaves while an entry is added.
use Rattle.std.proofs.Common.{◌≡◌, ◌≢◌, inl, inr, ℕ, ◌+◌, ◌/◌, ◌%◌, ◌≤◌, List, [], ◌∷◌, ◌++◌, length, get_or, take, drop, IsTrue, refl, sym, ◌∙◌, ap, subst, arith, append_assoc, length-append, take-append-drop}
use Rattle.std.proofs.lemmas.Bool.{cases_eq}
use Rattle.std.proofs.lemmas.List.{take_at, drop_at, drop_more, append-nil, length-take-le, take-append-le}
use Rattle.board_core.specs.Board.{BoardView, CrashState, IsSound, IsFileRun, LeavesOnly, SameSteps, Torn, Holds, Only}
use Rattle.pef_journal.specs.declared.kind.FileKind.{FileKind}
use Rattle.pef_journal.specs.Image.{header, blocks, frame, IsPayload, AllPayloads, HasEntries, Stands}
use Rattle.pef_journal.specs.Journal.{IsAtEnd, LeavesTorn, StandsForEither}
use Rattle.pef_journal.specs.declared.journal.Journal.{Journal}
use Rattle.pef_journal.proofs.Entries.{payloads_of, behind, blocks-append, some_octet}
use Rattle.pef_journal.proofs.Moments.{started, leaves_map, leaves_compose, steps_same, steps_along}

-- what the two writes make of the file
pub written_whole : (file mid new fr : List ℕ) (place : ℕ) → place + 1 ≤ length file → Holds file (place + 1) fr mid → Holds mid place (165 ∷ []) new → Holds file place (165 ∷ fr) new
written_whole file mid new fr place room first second =
    let tail = drop (place + 1 + length fr) file in
    let front : length (take (place + 1) file) ≡ place + 1 = length-take-le (place + 1) file room in
    let mid_is : mid ≡ take (place + 1) file ++ (fr ++ tail) = first ∙ append_assoc (take (place + 1) file) fr tail in
    let before : take place mid ≡ take place file =
    ap (take place) mid_is ∙ take-append-le place (take (place + 1) file) (fr ++ tail) (omega (arith, front)) ∙ sym (take-append-le place (take (place + 1) file) (drop (place + 1) file) (omega (arith, front)))
    ∙ ap (take place) (take-append-drop (place + 1) file) in
    let behind_gate : drop (place + 1) mid ≡ fr ++ tail = ap (drop (place + 1)) mid_is ∙ drop_at (take (place + 1) file) (fr ++ tail) (place + 1) front in
    let far : place + 1 + length fr ≡ place + length (165 ∷ fr) = omega arith in
    second ∙ (λ i. (before i ++ 165 ∷ []) ++ behind_gate i) ∙ append_assoc (take place file) (165 ∷ []) (fr ++ tail) ∙ sym (append_assoc (take place file) (165 ∷ fr) tail)
    ∙ ap (λ k. (take place file ++ 165 ∷ fr) ++ drop k file) far

module _ (kind : FileKind) (Z : List ℕ) (E : List (List ℕ)) (v : BoardView) (journal : Journal) (at : IsAtEnd kind Z E v journal) where
  abbrev front : List ℕ
  front = header kind Z ++ blocks E

  place_is : journal.place ≡ length front
  place_is = at.at.place

  all : AllPayloads (E ++ [])
  all = payloads_of (E ++ []) at.at.stands.0 at.at.stands.2

  all_E : AllPayloads E
  all_E = subst AllPayloads (append-nil E) all

  stands_behind : (more : List (List ℕ)) (tail : List ℕ) → HasEntries more tail → Stands kind Z (E ++ more) (front ++ tail)
  stands_behind more tail has = (
    blocks E ++ tail,
    (at.at.file.0, append_assoc (header kind Z) (blocks E) tail, λ none. let size : length (blocks E ++ tail) ≡ 0 = ap length none in absurd (omega (arith, size, length-append (blocks E) tail, some_octet more tail has))),
    behind E more tail all_E has,
  )

  -- a closed gate behind them
  stands_shut : (gate : ℕ) (tail : List ℕ) → gate ≢ 165 → Stands kind Z E (front ++ gate ∷ tail)
  stands_shut gate tail shut = subst (λ l. Stands kind Z l (front ++ gate ∷ tail)) (append-nil E) (stands_behind [] (gate ∷ tail) (gate, tail, refl, shut))

  -- the file as it is
  file_is : v.octets ≡ front ++ at.at.left.0 ∷ at.at.left.1
  file_is = at.at.file.1 ∙ ap (λ l. header kind Z ++ (blocks E ++ l)) at.at.left.2 ∙ sym (append_assoc (header kind Z) (blocks E) (at.at.left.0 ∷ at.at.left.1))

  module _ (p : List ℕ) (payload : IsPayload p) where
    -- the file with the entry behind a gate
    abbrev staged : ℕ → List ℕ → List ℕ
    staged gate tail = front ++ gate ∷ (length p % 256) ∷ (length p / 256) ∷ (p ++ 0 ∷ tail)

    stands_staged : (tail : List ℕ) → Stands kind Z (E ++ p ∷ []) (staged 165 tail)
    stands_staged tail = stands_behind (p ∷ []) (165 ∷ (length p % 256) ∷ (length p / 256) ∷ (p ++ 0 ∷ tail)) (0 ∷ tail, payload, refl, (0, tail, refl, λ clash. absurd (cc clash)))

    either_gate : (gate : ℕ) (tail : List ℕ) → StandsForEither kind Z E p (staged gate tail)
    either_gate gate tail = elim (cases_eq gate 165) [
      | inl is_open ↦ inr (subst (λ g. Stands kind Z (E ++ p ∷ []) (staged g tail)) (sym is_open) (stands_staged tail))
      | inr shut ↦ inl (stands_shut gate ((length p % 256) ∷ (length p / 256) ∷ (p ++ 0 ∷ tail)) shut)
    ]

    front_gate : take (journal.place + 1) v.octets ≡ front ++ at.at.left.0 ∷ []
    front_gate =
        ap (take (journal.place + 1)) (file_is ∙ sym (append_assoc front (at.at.left.0 ∷ []) at.at.left.1))
        ∙ take_at (front ++ at.at.left.0 ∷ []) at.at.left.1 (journal.place + 1) (omega (arith, place_is, length-append front (at.at.left.0 ∷ [])))

    -- the first write leaves the closed gate
    torn_behind : (n : ℕ) (c : List ℕ) → Torn (journal.place + 1) n v.octets c → Stands kind Z E c
    torn_behind n c torn =
        let tail = drop (journal.place + 1) c in
        let whole : c ≡ front ++ at.at.left.0 ∷ tail =
        sym (take-append-drop (journal.place + 1) c) ∙ ap (λ l. l ++ tail) (torn.before ∙ front_gate) ∙ append_assoc front (at.at.left.0 ∷ []) tail in
        subst (Stands kind Z E) (sym whole) (stands_shut at.at.left.0 tail at.at.left.3)

    abbrev old_tail : List ℕ
    old_tail = drop (journal.place + 1 + length (frame p)) v.octets

    written_behind : (c : List ℕ) → Holds v.octets (journal.place + 1) (frame p) c → c ≡ staged at.at.left.0 old_tail
    written_behind c holds =
        holds
        ∙ ap (λ l. l ++ frame p ++ old_tail) front_gate
        ∙ append_assoc (front ++ at.at.left.0 ∷ []) (frame p) old_tail
        ∙ append_assoc front (at.at.left.0 ∷ []) (frame p ++ old_tail)
        ∙ ap (λ l. front ++ at.at.left.0 ∷ (length p % 256) ∷ (length p / 256) ∷ l) (append_assoc p (0 ∷ []) old_tail)

    back_is : (gate : ℕ) (tail : List ℕ) → drop (journal.place + 1) (staged gate tail) ≡ (length p % 256) ∷ (length p / 256) ∷ (p ++ 0 ∷ tail)
    back_is gate tail =
        let back = (length p % 256) ∷ (length p / 256) ∷ (p ++ 0 ∷ tail) in
        ap (drop (journal.place + 1)) (sym (append_assoc front (gate ∷ []) back)) ∙ drop_at (front ++ gate ∷ []) back (journal.place + 1) (omega (arith, place_is, length-append front (gate ∷ [])))

    front_is : (gate : ℕ) (tail : List ℕ) → take journal.place (staged gate tail) ≡ front
    front_is gate tail = take_at front (gate ∷ (length p % 256) ∷ (length p / 256) ∷ (p ++ 0 ∷ tail)) journal.place (sym place_is)

    -- the second write leaves any gate before the whole entry
    torn_gate : (gate : ℕ) (tail c : List ℕ) → Torn journal.place 1 (staged gate tail) c → StandsForEither kind Z E p c
    torn_gate gate tail c torn =
        let g = get_or c journal.place 0 in
        let long : length (staged gate tail) ≡ length front + (1 + (2 + length (p ++ 0 ∷ tail))) = omega (arith, length-append front (gate ∷ (length p % 256) ∷ (length p / 256) ∷ (p ++ 0 ∷ tail))) in
        let rest : drop journal.place c ≡ g ∷ drop (journal.place + 1) c = drop_more c journal.place 0 (omega (arith, torn.no_shorter, long, place_is)) in
        let whole : c ≡ staged g tail =
        sym (take-append-drop journal.place c) ∙ ap (λ l. l ++ drop journal.place c) (torn.before ∙ front_is gate tail) ∙ ap (λ l. front ++ l) (rest ∙ ap (λ l. g ∷ l) (torn.after ∙ back_is gate tail)) in
        subst (StandsForEither kind Z E p) (sym whole) (either_gate g tail)

    written_gate : (gate : ℕ) (tail c : List ℕ) → Holds (staged gate tail) journal.place (165 ∷ []) c → c ≡ staged 165 tail
    written_gate gate tail c holds =
        holds ∙ ap (λ l. l ++ (165 ∷ []) ++ drop (journal.place + 1) (staged gate tail)) (front_is gate tail) ∙ ap (λ l. front ++ (165 ∷ []) ++ l) (back_is gate tail)
        ∙ append_assoc front (165 ∷ []) ((length p % 256) ∷ (length p / 256) ∷ (p ++ 0 ∷ tail))

    abbrev Leaves : CrashState → Type 0
    Leaves left = SameSteps v left × StandsForEither kind Z E p left.image

    pub at_start : IsSound v → IsTrue v.tells → LeavesOnly v v Leaves
    at_start sound tells = started v Leaves sound tells (λ left now. (
      steps_same v v left refl now,
      inl (subst (Stands kind Z E) (sym (at.at.lasting left.image now.image)) (subst (λ l. Stands kind Z l v.octets) (append-nil E) at.at.stands)),
    ))

    module _ (w : BoardView) (octets : List ℕ) (torn_w : LeavesOnly v w (LeavesTorn (journal.place + 1) (length octets) v)) where
      pub after_body : LeavesOnly v w Leaves
      after_body = leaves_map v w (LeavesTorn (journal.place + 1) (length octets) v) Leaves first torn_w
        where
          first : (left : CrashState) → LeavesTorn (journal.place + 1) (length octets) v left → Leaves left
          first left is = (is.3, inl (torn_behind (length octets) left.image (subst (λ f. Torn (journal.place + 1) (length octets) f left.image) (at.at.lasting is.0 is.1) is.2)))

      module _ (is_frame : octets ≡ frame p) (run : IsFileRun v w) (tells : IsTrue w.tells) (holds : Holds v.octets (journal.place + 1) octets w.octets) (only : Only w.octets w.images) where
        staged_w : w.octets ≡ staged at.at.left.0 old_tail
        staged_w = written_behind w.octets (subst (λ l. Holds v.octets (journal.place + 1) l w.octets) is_frame holds)

        pub after_gate : (x : BoardView) → LeavesOnly w x (LeavesTorn journal.place 1 w) → LeavesOnly v x Leaves
        after_gate x torn_x = leaves_compose v w x Leaves (LeavesTorn journal.place 1 w) after_body torn_x second
          where
            second : (left : CrashState) → LeavesTorn journal.place 1 w left → Leaves left
            second left is = (
              steps_along v w left (run.sent tells) is.3,
              torn_gate at.at.left.0 old_tail left.image (subst (λ f. Torn journal.place 1 f left.image) (only is.0 is.1 ∙ staged_w) is.2),
            )

        -- and then it stands behind the new entry
        pub at_new_end : (z : BoardView) (new : Journal) → Holds w.octets journal.place (165 ∷ []) z.octets → Only z.octets z.images → new.place ≡ journal.place + (3 + length p) → IsTrue new.ended → IsAtEnd kind Z (E ++ p ∷ []) z new
        at_new_end z new holds_z only_z place ended = record {
          at = record {
            rest = 0 ∷ old_tail;
            file = (at.at.file.0, whole, λ none. let size : length (blocks (E ++ p ∷ []) ++ 0 ∷ old_tail) ≡ 0 = ap length none in absurd (omega (arith, size, length-append (blocks (E ++ p ∷ [])) (0 ∷ old_tail))));
            place = place_new;
            left = (0, old_tail, refl, λ clash. absurd (cc clash));
            stands = subst (λ l. Stands kind Z l z.octets) (sym (append-nil (E ++ p ∷ []))) (subst (Stands kind Z (E ++ p ∷ [])) (sym is) (stands_staged old_tail));
            lasting = only_z;
          };
          ended = ended;
        }
          where
            is : z.octets ≡ staged 165 old_tail
            is = written_gate at.at.left.0 old_tail z.octets (subst (λ f. Holds f journal.place (165 ∷ []) z.octets) staged_w holds_z)

            blocks_p : blocks (E ++ p ∷ []) ≡ blocks E ++ 165 ∷ (length p % 256) ∷ (length p / 256) ∷ (p ++ [])
            blocks_p = blocks-append E (p ∷ [])

            whole : z.octets ≡ header kind Z ++ (blocks (E ++ p ∷ []) ++ 0 ∷ old_tail)
            whole =
                is ∙ append_assoc (header kind Z) (blocks E) (165 ∷ (length p % 256) ∷ (length p / 256) ∷ (p ++ 0 ∷ old_tail))
                ∙ ap (λ l. header kind Z ++ l) (ap (λ l. blocks E ++ 165 ∷ (length p % 256) ∷ (length p / 256) ∷ (l ++ 0 ∷ old_tail)) (sym (append-nil p))
                ∙ ap (λ l. blocks E ++ 165 ∷ (length p % 256) ∷ (length p / 256) ∷ l) (refl)
                ∙ sym (append_assoc (blocks E) (165 ∷ (length p % 256) ∷ (length p / 256) ∷ (p ++ [])) (0 ∷ old_tail))
                ∙ ap (λ l. l ++ 0 ∷ old_tail) (sym blocks_p))

            place_new : new.place ≡ length (header kind Z ++ blocks (E ++ p ∷ []))
            place_new = omega (arith, place, place_is, length-append (header kind Z) (blocks (E ++ p ∷ [])), ap length blocks_p, length-append (header kind Z) (blocks E), length-append (blocks E) (165 ∷ (length p % 256) ∷ (length p / 256) ∷ (p ++ [])), length-append p [])
