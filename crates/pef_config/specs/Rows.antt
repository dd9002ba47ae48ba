-- How the commands Set and Get PEF Configuration Parameters are answered (IPMI 2.0, sections 30.3 and 30.4): the checks stand in their
-- order, and the first that applies gives the answer. The codes, when each comes, and their order are this project's rule. Octets are counted
-- from 1.
use Rattle.std.specs.Prelude.{ℕ, ◌%◌, Bool, true, false, not, ◌&&◌, ◌||◌, ◌==◌, nat_le, List, [], ◌∷◌, length, if◌then◌else◌}
use Rattle.event_record.specs.Fields.{octet}
use Rattle.filter_table.specs.Filters.{is_number}
use Rattle.pef_config.specs.Places.{Sizes, Tables, SetInProgress, Control, Actions, Delay, FirstOctet, Policy, Guid, StringKey, Block, filter_at, is_string, selector}

-- this answer where the check applies, else what comes after
abbrev pub answer_if : {A : Type 0} → Bool → A → A → A
answer_if true answer after = answer
answer_if false answer after = after

abbrev pub is_in : ℕ → List ℕ → Bool
is_in n [] = false
is_in n (m ∷ numbers) = (n == m) || is_in n numbers

abbrev pub is_parameter : ℕ → Bool
is_parameter p = is_in p (0 ∷ 1 ∷ 2 ∷ 3 ∷ 5 ∷ 6 ∷ 7 ∷ 8 ∷ 9 ∷ 10 ∷ 11 ∷ 12 ∷ 13 ∷ [])

-- the numbers of filters, policy entries and strings
abbrev pub is_read_only : ℕ → Bool
is_read_only p = is_in p (5 ∷ 8 ∷ 11 ∷ [])

-- how many octets stand behind the parameter octet in a write; a block of a string is written by 1 to 16 octets
abbrev pub write_length : ℕ → ℕ
write_length p = if p == 6 then 21 else if p == 7 then 2 else if p == 9 then 4 else if p == 10 then 17 else if p == 12 then 3 else 1

abbrev pub is_length : ℕ → ℕ → Bool
is_length p n = if p == 13 then nat_le 3 n && nat_le n 18 else (n == write_length p)

-- the parameter has a selector, and it lies within its table
abbrev pub is_selector : Sizes → ℕ → ℕ → Bool
is_selector sizes p s =
    if is_in p (6 ∷ 7 ∷ []) then is_number sizes.filters s
    else if p == 9 then is_number sizes.policies s
    else if is_in p (12 ∷ 13 ∷ []) then is_string sizes s
    else true

-- the parameter has blocks, and this is one of them
abbrev pub is_block_of : Sizes → ℕ → ℕ → Bool
is_block_of sizes p block = if p == 13 then is_number sizes.blocks block else true

-- bits 1:0 of set in progress: 0 complete, 1 in progress, 2 commit write (not supported), 3 reserved
abbrev pub progress : ℕ → ℕ
progress octet = octet % 4

-- the completion code of Set PEF Configuration Parameters with these octets behind the parameter octet
abbrev pub set_code : Sizes → Tables → ℕ → List ℕ → ℕ
set_code sizes tables p payload =
    answer_if (not (is_parameter p)) 0x80 (
    answer_if (is_read_only p) 0x82 (
    answer_if (not (is_length p (length payload))) 0xC7 (
    answer_if (not (is_selector sizes p (selector (octet 1 payload)))) 0xC9 (
    answer_if (not (is_block_of sizes p (octet 2 payload))) 0xC9 (
    answer_if ((p == 0) && nat_le 2 (progress (octet 1 payload))) 0xCC (
    answer_if ((p == 0) && (progress (octet 1 payload) == 1) && (progress (octet 1 (tables SetInProgress)) == 1)) 0x81
    0x00))))))

-- the value of a parameter, an entry's with its selector in front, and a block's with selector and block
abbrev pub value_octets : Sizes → Tables → ℕ → ℕ → ℕ → List ℕ
value_octets sizes tables p s block =
    if p == 0 then tables SetInProgress
    else if p == 1 then tables Control
    else if p == 2 then tables Actions
    else if p == 3 then tables Delay
    else if p == 5 then sizes.filters ∷ []
    else if p == 6 then s ∷ filter_at tables s
    else if p == 7 then s ∷ tables (FirstOctet s)
    else if p == 8 then sizes.policies ∷ []
    else if p == 9 then s ∷ tables (Policy s)
    else if p == 10 then tables Guid
    else if p == 11 then sizes.strings ∷ []
    else if p == 12 then s ∷ tables (StringKey s)
    else s ∷ block ∷ tables (Block s block)

-- The reply to Get PEF Configuration Parameters, from the completion code on.
abbrev pub get_reply : Sizes → Tables → ℕ → Bool → ℕ → ℕ → List ℕ
get_reply sizes tables p revision_only set block =
    answer_if (not (is_parameter p)) (0x80 ∷ []) (
    answer_if revision_only (0x00 ∷ 0x11 ∷ []) (
    answer_if (not (is_selector sizes p (selector set))) (0xC9 ∷ []) (
    answer_if (not (is_block_of sizes p block)) (0xC9 ∷ [])
    (0x00 ∷ 0x11 ∷ value_octets sizes tables p (selector set) block))))
