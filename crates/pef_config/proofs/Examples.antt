-- Worked examples of the definitions: values after writes, codes and replies.
use Rattle.std.proofs.Common.{◌≡◌, ℕ, true, false, List, [], ◌∷◌, ◌++◌, replicate, Some, None, refl}
use Rattle.pef_config.specs.declared.initial.Initial.{Initial}
use Rattle.pef_config.specs.Places.{our_sizes, SetInProgress, Control, Policy, StringKey, Block, filter_at, guid_in, Tables, Write, write, value}
use Rattle.pef_config.specs.Rows.{set_code, get_reply}

abbrev filter_1 : List ℕ
filter_1 = 0x80 ∷ 0x20 ∷ replicate 18 0

abbrev initial : Initial
initial = record { control = 0x01; actions = 0x3F; delay = 0x00; filter = filter_1 }

-- the values after these writes, the latest first
abbrev after : List Write → Tables
after writes = value our_sizes initial writes

pub first_values :
    (after [] Control ≡ 0x01 ∷ []) × (after [] SetInProgress ≡ 0x00 ∷ []) × (filter_at (after []) 1 ≡ filter_1) × (filter_at (after []) 16 ≡ replicate 20 0)
    × (filter_at (after []) 0 ≡ []) × (filter_at (after []) 17 ≡ [])
first_values = (refl, refl, refl, refl, refl, refl)

-- the later write of a filter's first octet counts, by parameter 6 or 7
abbrev whole : Write
whole = write 6 (0x82 ∷ 0xC0 ∷ 0x02 ∷ replicate 18 0)

abbrev first : Write
first = write 7 (0x02 ∷ 0x20 ∷ [])

pub last_write_counts :
    (filter_at (after (whole ∷ first ∷ [])) 2 ≡ 0xC0 ∷ 0x02 ∷ replicate 18 0)
    × (filter_at (after (first ∷ whole ∷ [])) 2 ≡ 0x20 ∷ 0x02 ∷ replicate 18 0)
    × (filter_at (after (first ∷ whole ∷ [])) 1 ≡ filter_1)
    × (after (write 1 (0x03 ∷ []) ∷ write 1 (0x02 ∷ []) ∷ []) Control ≡ 0x03 ∷ [])
last_write_counts = (refl, refl, refl, refl)

abbrev in_progress : Tables
in_progress = after (write 0 (0x01 ∷ []) ∷ [])

pub codes :
    (set_code our_sizes (after []) 5 (0x10 ∷ []) ≡ 0x82) × (set_code our_sizes (after []) 4 (0x01 ∷ []) ≡ 0x80)
    × (set_code our_sizes (after []) 0 (0x01 ∷ []) ≡ 0x00) × (set_code our_sizes in_progress 0 (0x01 ∷ []) ≡ 0x81)
    × (set_code our_sizes in_progress 0 (0x03 ∷ []) ≡ 0xCC) × (set_code our_sizes in_progress 0 (0x03 ∷ 0x00 ∷ []) ≡ 0xC7)
    × (set_code our_sizes (after []) 7 (0x11 ∷ 0x00 ∷ []) ≡ 0xC9) × (set_code our_sizes (after []) 7 (0x90 ∷ 0x00 ∷ []) ≡ 0x00)
    × (set_code our_sizes (after []) 6 (0x01 ∷ 0x80 ∷ []) ≡ 0xC7)
codes = (refl, refl, refl, refl, refl, refl, refl, refl, refl)

pub replies :
    (get_reply our_sizes (after []) 5 false 0x00 0x00 ≡ 0x00 ∷ 0x11 ∷ 0x10 ∷ [])
    × (get_reply our_sizes (after []) 4 true 0x00 0x00 ≡ 0x80 ∷ [])
    × (get_reply our_sizes (after []) 6 true 0x00 0x00 ≡ 0x00 ∷ 0x11 ∷ [])
    × (get_reply our_sizes (after []) 6 false 0x00 0x00 ≡ 0xC9 ∷ [])
    × (get_reply our_sizes (after []) 7 false 0x81 0x00 ≡ 0x00 ∷ 0x11 ∷ 0x01 ∷ 0x80 ∷ [])
    × (get_reply our_sizes (after (first ∷ [])) 6 false 0x02 0x00 ≡ 0x00 ∷ 0x11 ∷ 0x02 ∷ 0x20 ∷ replicate 19 0)
replies = (refl, refl, refl, refl, refl, refl)

-- a block is a place of its own, filled up with 00h
abbrev fan : List ℕ
fan = 0x66 ∷ 0x61 ∷ 0x6E ∷ []

abbrev strings : Tables
strings = after (write 13 (0x01 ∷ 0x02 ∷ fan) ∷ write 13 (0x81 ∷ 0x02 ∷ replicate 16 0x41) ∷ write 12 (0x01 ∷ 0x01 ∷ 0x82 ∷ []) ∷ [])

pub blocks :
    (strings (Block 1 2) ≡ fan ++ replicate 13 0) × (strings (Block 1 1) ≡ replicate 16 0) × (strings (Block 0 4) ≡ replicate 16 0)
    × (strings (Block 9 1) ≡ []) × (strings (Block 1 0) ≡ []) × (strings (Block 1 5) ≡ [])
    × (strings (StringKey 1) ≡ 0x01 ∷ 0x82 ∷ []) × (strings (StringKey 8) ≡ 0x00 ∷ 0x00 ∷ []) × (strings (StringKey 9) ≡ [])
blocks = (refl, refl, refl, refl, refl, refl, refl, refl, refl)

abbrev to_be_used : Write
to_be_used = write 10 (0x01 ∷ replicate 16 0xA5)

pub entries_and_guid :
    (after (write 9 (0x90 ∷ 0x18 ∷ 0x11 ∷ 0x00 ∷ []) ∷ []) (Policy 16) ≡ 0x18 ∷ 0x11 ∷ 0x00 ∷ []) × (after [] (Policy 16) ≡ replicate 3 0) × (after [] (Policy 0) ≡ []) × (after [] (Policy 17) ≡ [])
    × (guid_in (after []) ≡ None) × (guid_in (after (to_be_used ∷ [])) ≡ Some (replicate 16 0xA5))
    × (guid_in (after (write 10 (0xFE ∷ replicate 16 0xA5) ∷ to_be_used ∷ [])) ≡ None)
entries_and_guid = (refl, refl, refl, refl, refl, refl, refl)

-- read only, length, selector, block
pub more_codes :
    (set_code our_sizes (after []) 8 [] ≡ 0x82) × (set_code our_sizes (after []) 11 (0x08 ∷ []) ≡ 0x82) × (set_code our_sizes (after []) 9 (0x11 ∷ []) ≡ 0xC7)
    × (set_code our_sizes (after []) 13 (0x01 ∷ 0x01 ∷ []) ≡ 0xC7) × (set_code our_sizes (after []) 13 (0x01 ∷ 0x01 ∷ replicate 17 0) ≡ 0xC7)
    × (set_code our_sizes (after []) 9 (replicate 4 0) ≡ 0xC9) × (set_code our_sizes (after []) 12 (replicate 3 9) ≡ 0xC9) × (set_code our_sizes (after []) 13 (replicate 3 5) ≡ 0xC9)
    × (set_code our_sizes (after []) 13 (replicate 3 4) ≡ 0x00) × (set_code our_sizes (after []) 10 (replicate 17 0) ≡ 0x00) × (set_code our_sizes (after []) 14 [] ≡ 0x80)
more_codes = (refl, refl, refl, refl, refl, refl, refl, refl, refl, refl, refl)

pub more_replies :
    (get_reply our_sizes strings 13 false 0x81 0x02 ≡ 0x00 ∷ 0x11 ∷ 0x01 ∷ 0x02 ∷ fan ++ replicate 13 0)
    × (get_reply our_sizes strings 13 true 0x09 0x05 ≡ 0x00 ∷ 0x11 ∷ []) × (get_reply our_sizes strings 13 false 0x01 0x05 ≡ 0xC9 ∷ [])
    × (get_reply our_sizes strings 12 false 0x01 0x00 ≡ 0x00 ∷ 0x11 ∷ 0x01 ∷ 0x01 ∷ 0x82 ∷ []) × (get_reply our_sizes strings 12 false 0x09 0x00 ≡ 0xC9 ∷ [])
    × (get_reply our_sizes strings 8 false 0x7F 0xFF ≡ 0x00 ∷ 0x11 ∷ 0x10 ∷ []) × (get_reply our_sizes strings 11 false 0x7F 0xFF ≡ 0x00 ∷ 0x11 ∷ 0x08 ∷ [])
    × (get_reply our_sizes strings 9 false 0x10 0x00 ≡ 0x00 ∷ 0x11 ∷ 0x10 ∷ replicate 3 0) × (get_reply our_sizes strings 10 false 0x00 0x00 ≡ 0x00 ∷ 0x11 ∷ replicate 17 0)
more_replies = (refl, refl, refl, refl, refl, refl, refl, refl, refl)
