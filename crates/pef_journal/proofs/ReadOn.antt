-- What is read at a gate, and what the file stands for.
use Rattle.std.proofs.Common.{◌≡◌, ⊎_elim, ℕ, ◌+◌, ◌-◌, ◌/◌, ◌%◌, ◌≤◌, true, false, IsTrue, List, [], ◌∷◌, ◌++◌, length, get_or, take, drop, refl, sym, ◌∙◌, ap, subst, arith, append_assoc, length-append, take-append-drop}
use Rattle.std.proofs.Math.Nat.{div-add-mod}
use Rattle.std.proofs.lemmas.List.{drop_at, drop_more, length-drop, length-take-le, append-nil, get_or-append-add}
use Rattle.board_core.specs.Board.{BoardView, Reads}
use Rattle.pef_journal.specs.declared.kind.FileKind.{FileKind}
use Rattle.pef_journal.specs.Image.{header, blocks, IsPayload, AllPayloads, HasEntries, IsForKind, Stands, StandsForNone, IsShutAt, IsCorruptAt, HasEntryAt, HasEntryWithin, length_at}
use Rattle.pef_journal.specs.Gate.{LiesWithin}
use Rattle.pef_journal.specs.Journal.{HasRead, IsAt, IsAtEnd, HasEnded, GivesEntry}
use Rattle.pef_journal.specs.declared.journal.Journal.{Journal}
use Rattle.pef_journal.proofs.Entries.{payloads_of, behind, blocks-append, some_octet}
use Rattle.pef_journal.proofs.Unique.{block_same}

-- ---- gates of a list of octets

module _ (file : List ℕ) (place n : ℕ) (out : List ℕ) (within : LiesWithin place n (length file)) (opens : file ≡ take place file ++ 165 ∷ (n % 256) ∷ (n / 256) ∷ drop (place + 3) file) (out_is : out ≡ take n (drop (place + 3) file)) where
  size : length (drop (place + 3) file) ≡ length file - (place + 3)
  size = length-drop (place + 3) file

  length_out : length out ≡ n
  length_out = ap length out_is ∙ length-take-le n (drop (place + 3) file) (omega (arith, size, within.2))

  pub payload_out : IsPayload out
  payload_out = (omega (arith, length_out, within.0), omega (arith, length_out, within.1))

  abbrev pub behind_out : List ℕ
  behind_out = drop n (drop (place + 3) file)

  pub some_behind : 1 ≤ length behind_out
  some_behind = omega (arith, length-drop n (drop (place + 3) file), size, within.2)

  block_is : 165 ∷ (n % 256) ∷ (n / 256) ∷ drop (place + 3) file ≡ 165 ∷ (length out % 256) ∷ (length out / 256) ∷ (out ++ behind_out)
  block_is =
      ap (λ l. 165 ∷ (n % 256) ∷ (n / 256) ∷ l) (sym (take-append-drop n (drop (place + 3) file)) ∙ ap (λ l. l ++ behind_out) (sym out_is))
      ∙ ap (λ k. 165 ∷ (k % 256) ∷ (k / 256) ∷ (out ++ behind_out)) (sym length_out)

  pub entry_at : HasEntryAt file place out
  entry_at = (
    take place file,
    behind_out,
    length-take-le place file (omega (arith, within.2)),
    payload_out,
    λ none. absurd (omega (arith, some_behind, ap length none)),
    opens ∙ ap (λ l. take place file ++ l) block_is,
  )

  pub drop_is : drop place file ≡ 165 ∷ (length out % 256) ∷ (length out / 256) ∷ (out ++ behind_out)
  drop_is = ap (drop place) opens ∙ drop_at (take place file) (165 ∷ (n % 256) ∷ (n / 256) ∷ drop (place + 3) file) place (length-take-le place file (omega (arith, within.2))) ∙ block_is

-- a closed gate ends the entries
shut_ends : (file : List ℕ) (place : ℕ) → IsShutAt file place → HasEntries [] (drop place file)
shut_ends file place shut = (get_or file place 0, drop (place + 1) file, drop_more file place 0 shut.0, shut.1)

-- where entries begin, the gate and the first of them lie within the file
entries_not_corrupt : (front rest : List ℕ) (entries : List (List ℕ)) → HasEntries entries rest → IsCorruptAt (front ++ rest) (length front) → ⊥
entries_not_corrupt front rest [] has corrupt =
    let size : length (front ++ rest) ≡ length front + (1 + length has.1) = omega (arith, length-append front rest, ap length has.2) in
    let gate : get_or (front ++ rest) (length front) 0 ≡ has.0 = ap (λ k. get_or (front ++ rest) k 0) (omega arith) ∙ get_or-append-add front rest 0 0 ∙ ap (λ l. get_or l 0 0) has.2 in
    ⊎_elim (λ short. absurd (omega (arith, short, size))) (λ opens. has.3 (sym gate ∙ opens.0.1)) corrupt
entries_not_corrupt front rest (e ∷ es) has corrupt =
    let size : length (front ++ rest) ≡ length front + (3 + (length e + length has.0)) = omega (arith, length-append front rest, ap length has.2, length-append e has.0) in
    let at : (k : ℕ) → get_or (front ++ rest) (length front + k) 0 ≡ get_or (165 ∷ (length e % 256) ∷ (length e / 256) ∷ (e ++ has.0)) k 0 = λ k. get_or-append-add front rest k 0 ∙ ap (λ l. get_or l k 0) has.2 in
    let is_length : length_at (front ++ rest) (length front) ≡ length e = omega (arith, at 1, at 2, div-add-mod (length e) 256) in
    let within : HasEntryWithin (front ++ rest) (length front) = (omega (arith, is_length, has.1.0), omega (arith, is_length, has.1.1), omega (arith, is_length, size, some_octet es has.0 has.3)) in
    ⊎_elim (λ short. absurd (omega (arith, short, size))) (λ opens. opens.1 within) corrupt

-- ---- the entries read so far

pub all_front : (es fs : List (List ℕ)) → AllPayloads (es ++ fs) → AllPayloads es
all_front [] fs all = tt
all_front (e ∷ es) fs all = (all.0, all_front es fs all.1)

all_append : (es fs : List (List ℕ)) → AllPayloads es → AllPayloads fs → AllPayloads (es ++ fs)
all_append [] fs first second = second
all_append (e ∷ es) fs first second = (first.0, all_append es fs first.1 second)

-- from what was read the front entries of the file are known
front_entries : (before : List (List ℕ)) (rest : List ℕ) (entries : List (List ℕ)) → AllPayloads before → HasEntries entries (blocks before ++ rest) → (after : List (List ℕ)) × (before ++ after ≡ entries) × HasEntries after rest
front_entries [] rest entries all has = (entries, refl, has)
front_entries (e ∷ es) rest [] all has = absurd (has.3 (ap (λ l. get_or l 0 0) (sym has.2)))
front_entries (e ∷ es) rest (f ∷ fs) all has =
    let same = block_same e f (blocks es ++ rest) has.0 (ap (λ l. 165 ∷ (length e % 256) ∷ (length e / 256) ∷ l) (sym (append_assoc e (blocks es) rest)) ∙ has.2) in
    let more = front_entries es rest fs all.1 (subst (HasEntries fs) (sym same.1) has.3) in
    (more.0, (λ i. same.0 i ∷ more.1 i), more.2)

-- where entries and a closed gate stand, the file has something
entries_some : (entries : List (List ℕ)) (rest : List ℕ) → HasEntries entries rest → rest ≡ [] → ⊥
entries_some [] rest has none = cc (none, has.2)
entries_some (e ∷ es) rest has none = cc (none, has.2)

module _ (kind : FileKind) (Z : List ℕ) (before : List (List ℕ)) (v : BoardView) (journal : Journal) where
  -- a journal that stands before entries has read those that are before
  pub has_read : (after : List (List ℕ)) → IsAt kind Z before after v journal → HasRead kind Z before v journal
  has_read after at = record {
    rest = at.rest;
    file = at.file;
    behind = entries_some after at.rest at.left;
    payloads = all_front before after (payloads_of (before ++ after) at.stands.0 at.stands.2);
    place = at.place;
    lasting = at.lasting;
  }

  -- and where entries follow what it has read, it stands before them
  pub stands_before : (after : List (List ℕ)) (r : HasRead kind Z before v journal) → HasEntries after r.rest → IsAt kind Z before after v journal
  stands_before after r left = record {
    rest = r.rest;
    file = r.file;
    place = r.place;
    left = left;
    stands = (blocks before ++ r.rest, r.file, behind before after r.rest r.payloads left);
    lasting = r.lasting;
  }

  module _ (r : HasRead kind Z before v journal) where
    abbrev front : List ℕ
    front = header kind Z ++ blocks before

    file_is : v.octets ≡ front ++ r.rest
    file_is = r.file.1 ∙ sym (append_assoc (header kind Z) (blocks before) r.rest)

    pub rest_is : drop journal.place v.octets ≡ r.rest
    rest_is = ap (drop journal.place) file_is ∙ drop_at front r.rest journal.place (sym r.place)

    -- the settings and the entries of a file are one
    pub reads_stand : (Y : List ℕ) (entries : List (List ℕ)) → Stands kind Y entries v.octets → (Y ≡ Z) × ((after : List (List ℕ)) × (before ++ after ≡ entries) × IsAt kind Z before after v journal)
    reads_stand Y entries stands =
        let same = header_same kind Y Z stands.0 (blocks before ++ r.rest) (sym stands.1.1 ∙ r.file.1) in
        let split = front_entries before r.rest entries r.payloads (subst (HasEntries entries) same.1 stands.2) in
        (same.0, (split.0, split.1, stands_before split.0 r split.2))
      where
        header_same : (k : FileKind) (A B a b : List ℕ) → header k A ++ a ≡ header k B ++ b → (A ≡ B) × (a ≡ b)
        header_same k A B a b both = block_same A B a b (ap (λ l. 165 ∷ drop 2 l) both)

    -- where the next gate is corrupt, the file stands for nothing
    pub corrupt_stands_not : (Y : List ℕ) (entries : List (List ℕ)) → IsCorruptAt v.octets journal.place → Stands kind Y entries v.octets → ⊥
    corrupt_stands_not Y entries corrupt stands =
        let is = (reads_stand Y entries stands).1 in
        entries_not_corrupt front is.2.rest is.0 is.2.left (subst (λ k. IsCorruptAt (front ++ is.2.rest) k) r.place (subst (λ l. IsCorruptAt l journal.place) (is.2.file.1 ∙ sym (append_assoc (header kind Z) (blocks before) is.2.rest)) corrupt))

  pub at_not_corrupt : (after : List (List ℕ)) → IsAt kind Z before after v journal → IsCorruptAt v.octets journal.place → ⊥
  at_not_corrupt after at corrupt =
      entries_not_corrupt (header kind Z ++ blocks before) at.rest after at.left
      (subst (λ k. IsCorruptAt ((header kind Z ++ blocks before) ++ at.rest) k) at.place (subst (λ l. IsCorruptAt l journal.place) (at.file.1 ∙ sym (append_assoc (header kind Z) (blocks before) at.rest)) corrupt))

-- ---- one call of `entry`

-- a call that reads leaves what was read
pub still_read : (kind : FileKind) (Z : List ℕ) (before : List (List ℕ)) (v w : BoardView) (journal new : Journal) → Reads v w → IsTrue w.tells → new.place ≡ journal.place → HasRead kind Z before v journal → HasRead kind Z before w new
still_read kind Z before v w journal new reads tells place r = record {
  rest = r.rest;
  file = (r.file.0, reads.octets tells ∙ r.file.1, r.file.2);
  behind = r.behind;
  payloads = r.payloads;
  place = place ∙ r.place;
  lasting = λ c now. r.lasting c ((reads.images tells c).0 now) ∙ sym (reads.octets tells);
}

module _ (kind : FileKind) (Z : List ℕ) (before : List (List ℕ)) (v w : BoardView) (journal new : Journal) (reads : Reads v w) (tells : IsTrue w.tells) where
  -- at a closed gate
  pub read_closed : HasRead kind Z before v journal → IsShutAt v.octets journal.place → new.place ≡ journal.place → HasEnded new → IsAtEnd kind Z before w new
  unfolding still_read
  read_closed r shut place ended = record {
    at = stands_before kind Z before w new [] (still_read kind Z before v w journal new reads tells place r) (subst (HasEntries []) (rest_is kind Z before v journal r) (shut_ends v.octets journal.place shut));
    ended = ended;
  }

  pub gives_none : (after : List (List ℕ)) (out : List ℕ) → IsAt kind Z before after v journal → IsShutAt v.octets journal.place → new.place ≡ journal.place → HasEnded new → GivesEntry kind Z before after w new out false
  unfolding has_read
  gives_none [] out at shut place ended = read_closed (has_read kind Z before v journal [] at) shut place ended
  gives_none (e ∷ es) out at shut place ended =
      let ends = subst (HasEntries []) (rest_is kind Z before v journal (has_read kind Z before v journal (e ∷ es) at)) (shut_ends v.octets journal.place shut) in
      absurd (ends.3 (ap (λ l. get_or l 0 0) (sym ends.2 ∙ at.left.2)))

  -- behind an open one
  module _ (n : ℕ) (out : List ℕ) (within : LiesWithin journal.place n (length v.octets)) (opens : v.octets ≡ take journal.place v.octets ++ 165 ∷ (n % 256) ∷ (n / 256) ∷ drop (journal.place + 3) v.octets)
      (out_is : out ≡ take n (drop (journal.place + 3) v.octets)) (place : new.place ≡ journal.place + (3 + n)) where
    abbrev tail : List ℕ
    tail = behind_out v.octets journal.place n out within opens out_is

    rest_opens : (r : HasRead kind Z before v journal) → r.rest ≡ 165 ∷ (length out % 256) ∷ (length out / 256) ∷ (out ++ tail)
    rest_opens r = sym (rest_is kind Z before v journal r) ∙ drop_is v.octets journal.place n out within opens out_is

    pub read_more : HasRead kind Z before v journal → HasRead kind Z (before ++ out ∷ []) w new
    read_more r = record {
      rest = tail;
      file = (
        r.file.0,
        whole,
        λ none. absurd (omega (arith, ap length none, length-append (blocks (before ++ out ∷ [])) tail, some_behind v.octets journal.place n out within opens out_is)),
      );
      behind = λ none. absurd (omega (arith, ap length none, some_behind v.octets journal.place n out within opens out_is));
      payloads = all_append before (out ∷ []) r.payloads (payload_out v.octets journal.place n out within opens out_is, tt);
      place = place_new;
      lasting = λ c now. r.lasting c ((reads.images tells c).0 now) ∙ sym (reads.octets tells);
    }
      where
        block : List ℕ
        block = 165 ∷ (length out % 256) ∷ (length out / 256) ∷ (out ++ [])

        blocks_more : blocks (before ++ out ∷ []) ≡ blocks before ++ 165 ∷ (length out % 256) ∷ (length out / 256) ∷ (out ++ [])
        blocks_more = blocks-append before (out ∷ [])

        whole : w.octets ≡ header kind Z ++ (blocks (before ++ out ∷ []) ++ tail)
        whole =
            reads.octets tells ∙ r.file.1
            ∙ ap (λ l. header kind Z ++ l) (ap (λ l. blocks before ++ l) (rest_opens r ∙ ap (λ l. 165 ∷ (length out % 256) ∷ (length out / 256) ∷ (l ++ tail)) (sym (append-nil out)))
            ∙ sym (append_assoc (blocks before) (165 ∷ (length out % 256) ∷ (length out / 256) ∷ (out ++ [])) tail) ∙ ap (λ l. l ++ tail) (sym blocks_more))

        place_new : new.place ≡ length (header kind Z ++ blocks (before ++ out ∷ []))
        place_new =
            omega (
              arith,
              place,
              r.place,
              length-append (header kind Z) (blocks (before ++ out ∷ [])),
              ap length blocks_more,
              length-append (header kind Z) (blocks before),
              length-append (blocks before) (165 ∷ (length out % 256) ∷ (length out / 256) ∷ (out ++ [])),
              length-append out [],
              length_out v.octets journal.place n out within opens out_is,
            )

    pub gives_one : (after : List (List ℕ)) → IsAt kind Z before after v journal → GivesEntry kind Z before after w new out true
    unfolding has_read read_more
    gives_one [] at = absurd (at.left.3 (ap (λ l. get_or l 0 0) (sym at.left.2 ∙ rest_opens (has_read kind Z before v journal [] at))))
    gives_one (e ∷ es) at =
        let same = block_same out e tail at.left.0 (sym (rest_opens (has_read kind Z before v journal (e ∷ es) at)) ∙ at.left.2) in
        let more = read_more (has_read kind Z before v journal (e ∷ es) at) in
        (same.0, subst (λ l. IsAt kind Z (before ++ l ∷ []) es w new) same.0 (stands_before kind Z (before ++ out ∷ []) w new es more (subst (HasEntries es) (sym same.1) at.left.3)))

-- ---- a file that can't be read on stands for nothing

pub stands_for_kind : (kind : FileKind) (Z : List ℕ) (entries : List (List ℕ)) (file : List ℕ) → Stands kind Z entries file → IsForKind kind file
stands_for_kind kind Z entries file stands = (Z, stands.0, stands.1)

-- where `open` answers that the file isn't of this kind
pub unformatted_stands_for_none : (kind : FileKind) (file : List ℕ) → (IsForKind kind file → ⊥) → StandsForNone kind file
unformatted_stands_for_none kind file none Z entries stands = none (stands_for_kind kind Z entries file stands)

-- where `entry` answers that the gate is corrupt
pub corrupt_stands_for_none : (kind : FileKind) (Z : List ℕ) (before : List (List ℕ)) (v : BoardView) (journal : Journal) → HasRead kind Z before v journal → IsCorruptAt v.octets journal.place → StandsForNone kind v.octets
corrupt_stands_for_none kind Z before v journal r corrupt Y entries stands = corrupt_stands_not kind Z before v journal r Y entries corrupt stands
