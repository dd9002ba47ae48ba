-- The longest torn image after one more write.
use Rattle.std.proofs.Common.{◌≡◌, ◌⊎◌, inl, inr, ⊎_elim, ℕ, ◌+◌, ◌-◌, ◌<◌, ◌≤◌, max, List, [], ◌∷◌, ◌++◌, length, take, drop, replicate, get_or, refl, ◌∙◌, ap, arith, length-append, length-drop}
use Rattle.std.proofs.lemmas.Bool.{cases_lt}
use Rattle.std.proofs.lemmas.List.{length-take-le, length-replicate, get_or_append_left, get_or-append_right, get_or-take, get_or-drop, get_or-replicate}
use Rattle.board_core.specs.File.{put_at}
use Rattle.board_core.specs.Moments.{Range}
use Rattle.board_core.specs.TornImage.{IsTornAt, IsLongestTorn}

module _ (place : ℕ) (octets file : List ℕ) (le : place ≤ length file) where
  front : length (take place file) ≡ place
  front = length-take-le place file le

  both : length (take place file ++ octets) ≡ place + length octets
  both = length-append (take place file) octets ∙ ap (λ n. n + length octets) front

  pub length_put : length (put_at place octets file) ≡ max (place + length octets) (length file)
  length_put = omega (arith, length-append (take place file ++ octets) (drop (place + length octets) file), both, length-drop (place + length octets) file)

  put_before : (k : ℕ) → k < place → get_or (put_at place octets file) k 0 ≡ get_or file k 0
  put_before k lt = get_or_append_left (take place file ++ octets) (drop (place + length octets) file) 0 k (omega (arith, lt, both))
      ∙ get_or_append_left (take place file) octets 0 k (omega (arith, lt, front)) ∙ get_or-take place file k 0 lt

  put_within : (k : ℕ) → place ≤ k → k < place + length octets → get_or (put_at place octets file) k 0 ≡ get_or octets (k - place) 0
  put_within k low high = get_or_append_left (take place file ++ octets) (drop (place + length octets) file) 0 k (omega (arith, high, both))
      ∙ get_or-append_right (take place file) octets place k 0 front low

  put_behind : (k : ℕ) → place + length octets ≤ k → get_or (put_at place octets file) k 0 ≡ get_or file k 0
  put_behind k low = get_or-append_right (take place file ++ octets) (drop (place + length octets) file) (place + length octets) k 0 both low
      ∙ get_or-drop (place + length octets) file (k - (place + length octets)) 0 ∙ ap (λ n. get_or file n 0) (omega (arith, low))

-- right after a sync nothing is torn
pub longest_synced : (octet : ℕ) (file : List ℕ) → IsLongestTorn octet file [] file
longest_synced octet file = record {
  size = refl;
  torn = λ k short torn. ⊎_elim (λ past. absurd (omega (arith, past, short))) (λ none. absurd none) torn;
  same = λ k short whole. refl;
}

-- one more range is torn
module _ (octet place count : ℕ) (synced : List ℕ) (written : List Range) (image : List ℕ) (le : place ≤ length image) (longest : IsLongestTorn octet synced written image) where
  abbrev range : Range
  range = record { place = place; count = count }

  pub longest_torn : IsLongestTorn octet synced (range ∷ written) (put_at place (replicate count octet) image)
  longest_torn = record {
    size = omega (arith, size, longest.size);
    torn = λ k short torn. torn_at k short torn;
    same = λ k short whole. same_at k short whole;
  }
    where
      all : length (replicate count octet) ≡ count
      all = length-replicate {A = ℕ} count octet

      size : length (put_at place (replicate count octet) image) ≡ max (place + count) (length image)
      size = length_put place (replicate count octet) image le ∙ ap (λ n. max (place + n) (length image)) all

      inside : (k : ℕ) → place ≤ k → k < place + count → get_or (put_at place (replicate count octet) image) k 0 ≡ octet
      inside k low high = put_within place (replicate count octet) image le k low (omega (arith, high, all)) ∙ get_or-replicate count (k - place) octet 0 (omega (arith, low, high))

      outside : (k : ℕ) → (k < place) ⊎ (place + count ≤ k) → get_or (put_at place (replicate count octet) image) k 0 ≡ get_or image k 0
      outside k out = ⊎_elim (λ lt. put_before place (replicate count octet) image le k lt) (λ ge. put_behind place (replicate count octet) image le k (omega (arith, ge, all))) out

      torn_at : (k : ℕ) → k < length (put_at place (replicate count octet) image) → IsTornAt synced (range ∷ written) k → get_or (put_at place (replicate count octet) image) k 0 ≡ octet
      torn_at k short torn = ⊎_elim
          (λ before. outside k (inl before) ∙ longest.torn k (omega (arith, before, le)) (earlier (inl before)))
          (λ low. ⊎_elim
          (λ high. inside k low high)
          (λ behind. outside k (inr behind) ∙ longest.torn k (omega (arith, behind, short, size)) (earlier (inr behind))) (cases_lt k (place + count))) (cases_lt k place)
        where
          earlier : (k < place) ⊎ (place + count ≤ k) → IsTornAt synced written k
          earlier out = ⊎_elim (λ past. inl past) (λ within. ⊎_elim (λ here. absurd (⊎_elim (λ lt. omega (arith, lt, here.0)) (λ ge. omega (arith, ge, here.1)) out)) (λ more. inr more) within) torn

      same_at : (k : ℕ) → k < length (put_at place (replicate count octet) image) → (IsTornAt synced (range ∷ written) k → ⊥) → get_or (put_at place (replicate count octet) image) k 0 ≡ get_or synced k 0
      same_at k short whole = ⊎_elim
          (λ before. outside k (inl before) ∙ longest.same k (omega (arith, before, le)) still)
          (λ low. ⊎_elim
          (λ high. absurd (whole (inr (inl (low, high)))))
          (λ behind. outside k (inr behind) ∙ longest.same k (omega (arith, behind, short, size)) still) (cases_lt k (place + count))) (cases_lt k place)
        where
          still : IsTornAt synced written k → ⊥
          still torn = whole (⊎_elim (λ past. inl past) (λ within. inr (inr within)) torn)
