-- The head of a file, and what it says of it.
use Rattle.std.proofs.Common.{◌≡◌, ◌≢◌, ◌↔◌, inl, inr, ⊎_elim, true, ◌&&◌, nat_le, nat_lt, bytes_eq, IsTrue, ◌≤◌, ℕ, ◌+◌, ◌/◌, ◌%◌, ◌<◌, List, [], ◌∷◌, ◌++◌, length, take, drop, refl, sym, ◌∙◌, ap, subst, arith, length-append, take-append-drop}
use Rattle.std.proofs.lemmas.Bool.{and_parts, and_from, or_cases, or_left, or_right, leb-true, le-leb, ltb-true, lt-ltb}
use Rattle.std.proofs.lemmas.List.{drop-drop, length-drop, length-take-le}
use Rattle.std.proofs.lemmas.Slice.Eq.{bytes_eq-Decides}
use Rattle.std.specs.List.{list_any}
use Rattle.board_core.specs.Board.{BoardView}
use Rattle.pef_journal.specs.Image.{header, HasSettingsLength, HasHeader, IsForKind, IsFormatted, Stands}
use Rattle.pef_journal.specs.Format.{has_head}
use Rattle.pef_journal.specs.Journal.{HasRead, IsAt}
use Rattle.pef_journal.specs.declared.kind.FileKind.{FileKind}
use Rattle.pef_journal.specs.declared.journal.Journal.{Journal}
use Rattle.pef_journal.proofs.ReadOn.{reads_stand}

-- the first four octets for settings of this length
abbrev pub head : ℕ → ℕ → List ℕ
head number n = 165 ∷ number ∷ (n % 256) ∷ (n / 256) ∷ []

pub head_of_kind : (kind : FileKind) (n : ℕ) (file : List ℕ) → n ≡ kind.settings → IsForKind kind file → take 4 file ≡ head kind.number n
head_of_kind kind n file is for = ap (take 4) for.2.1 ∙ ap (head kind.number) (for.2.0.1 ∙ sym is)

pub long_for_kind : (kind : FileKind) (n : ℕ) (file : List ℕ) → n ≡ kind.settings → IsForKind kind file → 4 + n < length file
long_for_kind kind n file is for = some for.1 for.2.2 (ap length for.2.1) (for.2.0.1 ∙ sym is)
  where
    some : (rest : List ℕ) → rest ≢ [] → length file ≡ length (header kind for.0 ++ rest) → length for.0 ≡ n → 4 + n < length file
    some [] none size same = absurd (none refl)
    some (x ∷ rest) none size same = omega (arith, size, same, length-append for.0 (x ∷ rest))

-- a file with this head, these settings and something behind them
pub has_header : (kind : FileKind) (Z file : List ℕ) → HasSettingsLength kind Z → take 4 file ≡ head kind.number (length Z) → Z ≡ take (length Z) (drop 4 file) → 4 + length Z < length file → HasHeader kind Z (drop (4 + length Z) file) file
has_header kind Z file is heads settings long = (
  is,
  sym (take-append-drop 4 file) ∙ (λ i. heads i ++ drop 4 file)
      ∙ ap (λ l. head kind.number (length Z) ++ l) (sym (take-append-drop (length Z) (drop 4 file)) ∙ (λ i. sym settings i ++ drop-drop (length Z) 4 file i)),
  λ none. absurd (omega (arith, long, length-drop (4 + length Z) file, ap length none)),
)

-- ---- which kind a file is of

module _ (file : List ℕ) where
  head_is_kind : (kind : FileKind) → has_head (take 4 file) (length file) kind ≡ true → IsForKind kind file
  head_is_kind kind has = (Z, drop (4 + length Z) file, has_header kind Z file (fits, same) heads (ap (λ n. take n (drop 4 file)) (sym same)) (omega (arith, long, same)))
    where
      all : ((nat_le kind.settings 64 && bytes_eq (take 4 file) (head kind.number kind.settings)) ≡ true) × (nat_lt (4 + kind.settings) (length file) ≡ true)
      all = and_parts (nat_le kind.settings 64 && bytes_eq (take 4 file) (head kind.number kind.settings)) (nat_lt (4 + kind.settings) (length file)) has

      front : (nat_le kind.settings 64 ≡ true) × (bytes_eq (take 4 file) (head kind.number kind.settings) ≡ true)
      front = and_parts (nat_le kind.settings 64) (bytes_eq (take 4 file) (head kind.number kind.settings)) all.0

      fits : kind.settings ≤ 64
      fits = leb-true kind.settings 64 front.0

      long : 4 + kind.settings < length file
      long = ltb-true (4 + kind.settings) (length file) all.1

      Z : List ℕ
      Z = take kind.settings (drop 4 file)

      same : length Z ≡ kind.settings
      same = length-take-le kind.settings (drop 4 file) (omega (arith, long, length-drop 4 file))

      heads : take 4 file ≡ head kind.number (length Z)
      heads = (bytes_eq-Decides (take 4 file) (head kind.number kind.settings)).0 front.1 ∙ ap (head kind.number) (sym same)

  kind_has_head : (kind : FileKind) → IsForKind kind file → has_head (take 4 file) (length file) kind ≡ true
  kind_has_head kind is =
      and_from (nat_le kind.settings 64 && bytes_eq (take 4 file) (head kind.number kind.settings)) (nat_lt (4 + kind.settings) (length file))
      (and_from (nat_le kind.settings 64) (bytes_eq (take 4 file) (head kind.number kind.settings)) (le-leb kind.settings 64 is.2.0.0) ((bytes_eq-Decides (take 4 file) (head kind.number kind.settings)).1 (head_of_kind kind kind.settings file refl is)))
      (lt-ltb (4 + kind.settings) (length file) (long_for_kind kind kind.settings file refl is))

  -- it has more than a head
  pub too_short : (kinds : List FileKind) → length file ≤ 4 → IsFormatted kinds file → ⊥
  too_short [] short none = none
  too_short (kind ∷ kinds) short is =
      ⊎_elim (λ one. let long = long_for_kind kind kind.settings file refl one in omega (arith, short, long)) (too_short kinds short) is

  pub heads_are_kinds : (kinds : List FileKind) → IsTrue (list_any (has_head (take 4 file) (length file)) kinds) ↔ IsFormatted kinds file
  heads_are_kinds [] = (λ e. absurd (cc e), λ none. absurd none)
  heads_are_kinds (kind ∷ kinds) =
      let one = has_head (take 4 file) (length file) kind in
      let more = list_any (has_head (take 4 file) (length file)) kinds in (
        λ any. ⊎_elim (λ is. inl (head_is_kind kind is)) (λ is. inr ((heads_are_kinds kinds).0 is)) (or_cases one more any),
        λ is. ⊎_elim (λ of. or_left one more (kind_has_head kind of)) (λ of. or_right one more ((heads_are_kinds kinds).1 of)) is,
      )

-- a journal that was opened stands before the entries
pub opens_at : (kind : FileKind) (Y : List ℕ) (w : BoardView) (journal : Journal) (octets : List ℕ) → HasRead kind Y [] w journal → w.octets ≡ octets → (Z : List ℕ) (entries : List (List ℕ)) → Stands kind Z entries octets → (Y ≡ Z) × IsAt kind Z [] entries w journal
opens_at kind Y w journal octets r same Z entries stands =
    let is = reads_stand kind Y [] w journal r Z entries (subst (Stands kind Z entries) (sym same) stands) in
    (sym is.0, subst (λ l. IsAt kind l [] entries w journal) (sym is.0) (subst (λ e. IsAt kind Y [] e w journal) is.1.1 is.1.2))
