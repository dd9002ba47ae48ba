-- Alert strings and their keys: PEF parameters 12 and 13 of IPMI 2.0, section 30.3. A string is read and written in blocks of 16 octets,
-- which are numbered from 1. String 0 is volatile, and the others are numbered from 1. How many strings and blocks there are is this
-- project's choice, and so each definition takes their numbers.
use Rattle.std.specs.Prelude.{ℕ, ◌+◌, ◌-◌, ◌*◌, ◌&&◌, ◌==◌, not, nat_le, List, ◌++◌, length, take, drop, replicate, Option, Some, None, if◌then◌else◌}
use Rattle.std.specs.List.{concat, before_first}
use Rattle.alert_strings.specs.declared.fault.StringFault.{StringFault}
use Rattle.alert_strings.specs.declared.fault.StringFault.TheVariants.{NoSuch, NoBlock}

-- why there is no string of this number, or else no such block of it
abbrev pub number_fault : ℕ → ℕ → Option StringFault
number_fault strings number = if nat_le number strings then None else Some (NoSuch number)

abbrev pub block_fault : ℕ → ℕ → ℕ → ℕ → Option StringFault
block_fault strings blocks number block =
    if not (nat_le number strings) then Some (NoSuch number)
    else (if nat_le 1 block && nat_le block blocks then None else Some (NoBlock block))

-- where this block stands among the blocks of all strings, one string behind the other
abbrev pub block_place : ℕ → ℕ → ℕ → ℕ
block_place blocks number block = blocks * number + (block - 1)

-- these octets, filled up with 00h
abbrev pub filled : ℕ → List ℕ → List ℕ
filled width octets = octets ++ replicate (width - length octets) 0

-- the octets of a string: its blocks, one behind the other
abbrev pub octets_of : ℕ → List (List ℕ) → ℕ → List ℕ
octets_of blocks all number = concat (take blocks (drop (blocks * number) all))

-- its text ends before the first 00h, and is cut to 61 octets, as many as the tail of a trap has room for
abbrev pub text_of : ℕ → List (List ℕ) → ℕ → List ℕ
text_of blocks all number = take 61 (before_first (λ octet. octet == 0) (octets_of blocks all number))
