-- The parameters as they are made: filter 1 is given, and the other tables are of zeros.
use Rattle.std.proofs.Common.{◌≡◌, ℕ, zero, suc, ◌-◌, ◌≤◌, ◌∙◌, ap, sym, refl, true, false, Bool, cond, List, [], ◌∷◌, replicate, take, drop, get_or, arith, leb, inl, inr}
use Rattle.std.specs.Prelude.{◌&&◌}
use Rattle.std.proofs.lemmas.Bool.{and_parts, leb-true, cases_lt}
use Rattle.std.proofs.lemmas.List.{get_or-replicate, get_or_past}
use Rattle.alert_strings.specs.declared.strings.Strings.{Strings}
use Rattle.alert_strings.specs.Kept.{blocks, keys}
use Rattle.alert_strings.specs.Table.{block_place}
use Rattle.filter_table.specs.Filters.{is_number, numbered, no_filters, Replaces}
use Rattle.policy_table.specs.Table.{zero_entries}
use Rattle.pef_config.specs.declared.config.Config.{Config}
use Rattle.pef_config.specs.declared.initial.Initial.{Initial}
use Rattle.pef_config.specs.Kept.{tables, key_octets, key_at, block_at}
use Rattle.pef_config.specs.Places.{Place, SetInProgress, Control, Actions, Delay, FirstOctet, OtherOctets, Policy, Guid, StringKey, Block, our_sizes, zeros_if, initial_value}
use Rattle.pef_config.proofs.InitialFilters.{is_number-within, is_number-past, initial_filters}
use Rattle.pef_config.proofs.Numbered.{numbered-one_on}

-- what is zeros where there is such an entry
where_held : (holds : Bool) (octets : List ℕ) (count : ℕ) → (holds ≡ true → octets ≡ replicate count 0) → cond holds octets [] ≡ zeros_if holds count
where_held true octets count zeros = zeros refl
where_held false octets count zeros = refl

module _ (strings : Strings) (no_blocks : blocks strings ≡ replicate 36 (replicate 16 0)) (no_keys : keys strings ≡ replicate 9 (0, 0)) where
  initial_keys : (n : ℕ) → key_at strings n ≡ zeros_if (leb n 8) 2
  initial_keys n = where_held (leb n 8) (key_octets (get_or (keys strings) n (0, 0))) 2 (λ held.
      ap (λ ks. key_octets (get_or ks n (0, 0))) no_keys ∙ ap key_octets (get_or-replicate 9 n (0, 0) (0, 0) (omega (arith, leb-true n 8 held))))

  initial_blocks : (n block : ℕ) → block_at strings n block ≡ zeros_if (leb n 8 && is_number 4 block) 16
  initial_blocks n block = where_held (leb n 8 && is_number 4 block) (get_or (blocks strings) (block_place 4 n block) []) 16 (λ held.
      let parts : (leb n 8 ≡ true) × (is_number 4 block ≡ true) = and_parts (leb n 8) (is_number 4 block) held in
      let range : (leb 1 block ≡ true) × (leb block 4 ≡ true) = and_parts (leb 1 block) (leb block 4) parts.1 in
      ap (λ bs. get_or bs (block_place 4 n block) []) no_blocks
      ∙ get_or-replicate 36 (block_place 4 n block) (replicate 16 0) [] (omega (arith, leb-true n 8 parts.0, leb-true 1 block range.0, leb-true block 4 range.1)))

numbered_from : (n : ℕ) → 1 ≤ n → numbered (zero_entries 16) n ≡ zeros_if (is_number 16 n) 3
numbered_from n some = numbered-one_on (zero_entries 16) n some ∙ elim (cases_lt 16 n) [
  | inl past ↦ get_or_past (zero_entries 16) (n - 1) [] (omega (arith, past)) ∙ ap (λ b. zeros_if b 3) (sym (is_number-past n past))
  | inr within ↦ get_or-replicate 16 (n - 1) (replicate 3 0) [] (omega (arith, some, within)) ∙ ap (λ b. zeros_if b 3) (sym (is_number-within n some within))
]

initial_policies : (n : ℕ) → numbered (zero_entries 16) n ≡ zeros_if (is_number 16 n) 3
initial_policies zero = refl
initial_policies (suc n) = numbered_from (suc n) (omega arith)

pub initial_tables : (initial : Initial) (c : Config)
    → c.set_in_progress ≡ 0
    → c.control ≡ initial.control
    → c.actions ≡ initial.actions
    → c.delay ≡ initial.delay
    → Replaces (no_filters 16) c.filters 1 initial.filter
    → c.policies ≡ zero_entries 16
    → c.guid ≡ replicate 17 0
    → blocks c.strings ≡ replicate 36 (replicate 16 0)
    → keys c.strings ≡ replicate 9 (0, 0)
    → (place : Place) → tables c place ≡ initial_value our_sizes initial place
initial_tables initial c progress control actions delay filters policies guid no_blocks no_keys SetInProgress = ap (λ o. o ∷ []) progress
initial_tables initial c progress control actions delay filters policies guid no_blocks no_keys Control = ap (λ o. o ∷ []) control
initial_tables initial c progress control actions delay filters policies guid no_blocks no_keys Actions = ap (λ o. o ∷ []) actions
initial_tables initial c progress control actions delay filters policies guid no_blocks no_keys Delay = ap (λ o. o ∷ []) delay
initial_tables initial c progress control actions delay filters policies guid no_blocks no_keys (FirstOctet n) = ap (take 1) (initial_filters initial c.filters filters n)
initial_tables initial c progress control actions delay filters policies guid no_blocks no_keys (OtherOctets n) = ap (drop 1) (initial_filters initial c.filters filters n)
initial_tables initial c progress control actions delay filters policies guid no_blocks no_keys (Policy n) = ap (λ t. numbered t n) policies ∙ initial_policies n
initial_tables initial c progress control actions delay filters policies guid no_blocks no_keys Guid = guid
initial_tables initial c progress control actions delay filters policies guid no_blocks no_keys (StringKey n) = initial_keys c.strings no_blocks no_keys n
initial_tables initial c progress control actions delay filters policies guid no_blocks no_keys (Block n block) = initial_blocks c.strings no_blocks no_keys n block
