-- The text of an alert, from the strings that are kept.
use Rattle.std.proofs.Common.{◌≡◌, ℕ, ◌+◌, ◌-◌, ◌*◌, ◌<◌, ◌≤◌, ◌&&◌, true, cond, List, [], map, take, drop, Option, Some, ◌∙◌, ap, sym, eqb, leb, length, get_or, length-take, length-drop, arith}
use Rattle.std.specs.List.{before_first, concat}
use Rattle.std.proofs.lemmas.List.{get_or-take, get_or-drop}
use Rattle.std.proofs.lemmas.List.Concat.{concat_is}
use Rattle.std.proofs.lemmas.List.Folds.{flat_map-map}
use Rattle.std.proofs.lemmas.Bool.Decides.{nat_tests}
use Rattle.alert_strings.specs.declared.strings.Strings.{Strings}
use Rattle.alert_strings.specs.Kept.{blocks, keys}
use Rattle.alert_strings.specs.Lookup.{string_for}
use Rattle.alert_strings.specs.Table.{block_place, text_of}
use Rattle.event_record.specs.Fields.{octet}
use Rattle.filter_table.specs.Filters.{is_number}
use Rattle.pef_config.specs.Kept.{key_octets, key_at, block_at}
use Rattle.pef_config.specs.Places.{Tables, StringKey, Block, our_sizes}
use Rattle.pef_match.specs.Numbers.{numbers_from}
use Rattle.pef_match.specs.Texts.{string_keys, string_octets, string_text, alert_text}
use Rattle.pef_match.proofs.Rows.{listed}

module _ (strings : Strings) (t : Tables) where
  module _ (nine : length (keys strings) ≡ 9) (each : (n : ℕ) → key_at strings n ≡ t (StringKey n)) where
    key_of : (n : ℕ) → n ≤ 8 → key_octets (get_or (keys strings) n (0, 0)) ≡ t (StringKey n)
    key_of n within = sym (ap (λ b. cond b (key_octets (get_or (keys strings) n (0, 0))) []) (is_string n within)) ∙ each n
      where
        is_string : (n : ℕ) → n ≤ 8 → leb n 8 ≡ true
        is_string n within = grind (arith, nat_tests)

    pub keys_listed : keys strings ≡ string_keys our_sizes t
    keys_listed = listed 9 (keys strings) (0, 0) key_pair 0 nine (λ i below. pair i (omega arith) ∙ ap key_pair (from_none i))
      where
        key_pair : ℕ → ℕ × ℕ
        key_pair n = (octet 1 (t (StringKey n)), octet 2 (t (StringKey n)))

        from_none : (i : ℕ) → i ≡ 0 + i
        from_none i = omega arith

        pair : (i : ℕ) → i ≤ 8 → get_or (keys strings) i (0, 0) ≡ key_pair i
        pair i within = ap (λ o. (octet 1 o, octet 2 o)) (key_of i within)

  module _ (all : length (blocks strings) ≡ 36) (each : (n block : ℕ) → block_at strings n block ≡ t (Block n block)) (n : ℕ) (within : n ≤ 8) where
    block_of : (i : ℕ) → i < 4 → get_or (blocks strings) (4 * n + i) [] ≡ t (Block n (1 + i))
    block_of i below =
        ap (λ k. get_or (blocks strings) k []) (place n i)
        ∙ sym (ap (λ b. cond b (get_or (blocks strings) (block_place 4 n (1 + i)) []) []) (is_block n i within below))
        ∙ each n (1 + i)
      where
        place : (n i : ℕ) → 4 * n + i ≡ 4 * n + (1 + i - 1)
        place n i = omega arith

        is_block : (n i : ℕ) → n ≤ 8 → i < 4 → (leb n 8 && is_number 4 (1 + i)) ≡ true
        is_block n i within below = grind (arith, nat_tests)

    octets_listed : concat (take 4 (drop (4 * n) (blocks strings))) ≡ string_octets our_sizes t n
    octets_listed =
        ap concat (listed 4 (take 4 (drop (4 * n) (blocks strings))) [] (λ block. t (Block n block)) 1 four by_place)
        ∙ concat_is (map (λ block. t (Block n block)) (numbers_from 1 4))
        ∙ flat_map-map (λ x. x) (λ block. t (Block n block)) (numbers_from 1 4)
      where
        four : length (take 4 (drop (4 * n) (blocks strings))) ≡ 4
        four = grind (arith, length-take, length-drop)

        by_place : (i : ℕ) → i < 4 → get_or (take 4 (drop (4 * n) (blocks strings))) i [] ≡ t (Block n (1 + i))
        by_place i below = get_or-take 4 (drop (4 * n) (blocks strings)) i [] below ∙ get_or-drop (4 * n) (blocks strings) i [] ∙ block_of i below

    pub text_listed : text_of 4 (blocks strings) n ≡ string_text our_sizes t (Some n)
    text_listed = ap (λ o. take 61 (before_first (λ octet. eqb octet 0) o)) octets_listed

  -- the text of what a key names
  pub text_named : (key filter : ℕ) (found : Option ℕ) (text : List ℕ) → length (keys strings) ≡ 9 → ((n : ℕ) → key_at strings n ≡ t (StringKey n))
      → found ≡ string_for 8 (keys strings) key filter → text ≡ string_text our_sizes t found → text ≡ alert_text our_sizes t key filter
  unfolding alert_text
  text_named key filter found text nine each named is =
      is ∙ ap (string_text our_sizes t) (named ∙ ap (λ ks. string_for 8 ks key filter) (keys_listed nine each))
