-- What power leaves at each place.
use Rattle.std.proofs.Common.{◌≡◌, ℕ, ◌∙◌, ap, refl, true, false, Bool, cond, List, [], ◌∷◌, ◌++◌, replicate, arith, eqb}
use Rattle.std.specs.Prelude.{◌&&◌, ◌||◌}
use Rattle.std.proofs.Math.Path.{fun_ext}
use Rattle.std.proofs.lemmas.Bool.Decides.{nat_tests}
use Rattle.filter_table.specs.Filters.{is_number}
use Rattle.pef_config.specs.declared.initial.Initial.{Initial}
use Rattle.pef_config.specs.Places.{Place, SetInProgress, Control, Actions, Delay, FirstOctet, OtherOctets, Policy, Guid, StringKey, Block, Tables, Write, our_sizes, value, only_if, last_or, write, written, PutsAt, zeros_to_block, power_writes, powered}

-- behind four writes of the same octets, of which some are to a place of its own
one_of_four : (own a b c d : Bool) (octets old : List ℕ)
    → last_or (last_or (last_or (last_or old (only_if (own && d) octets)) (only_if (own && c) octets)) (only_if (own && b) octets)) (only_if (own && a) octets)
    ≡ cond (own && (a || (b || (c || d)))) octets old
one_of_four false a b c d octets old = refl
one_of_four true true b c d octets old = refl
one_of_four true false true c d octets old = refl
one_of_four true false false true d octets old = refl
one_of_four true false false false true octets old = refl
one_of_four true false false false false octets old = refl

is_one : (block : ℕ) → (eqb 1 block || (eqb 2 block || (eqb 3 block || eqb 4 block))) ≡ is_number 4 block
is_one block = grind (arith, nat_tests)

is_zero : (n : ℕ) → eqb 0 n ≡ eqb n 0
is_zero n = grind (arith, nat_tests)

key_place : (own : Bool) (octets old : List ℕ) → last_or old (only_if own octets) ≡ cond own octets old
key_place true octets old = refl
key_place false octets old = refl

-- what these writes, the latest first, leave
abbrev behind : List Write → Tables → Tables
behind [] old place = old place
behind (w ∷ earlier) old place = last_or (behind earlier old place) (written w place)

powered_at : (old : Tables) (place : Place) → behind power_writes old place ≡ powered old place
powered_at old SetInProgress = refl
powered_at old Control = refl
powered_at old Actions = refl
powered_at old Delay = refl
powered_at old (FirstOctet n) = refl
powered_at old (OtherOctets n) = refl
powered_at old (Policy n) = refl
powered_at old Guid = refl
powered_at old (StringKey n) =
    key_place (eqb 0 n) (replicate 2 0) (old (StringKey n))
    ∙ ap (λ own. cond own (replicate 2 0) (old (StringKey n))) (is_zero n)
powered_at old (Block n block) =
    one_of_four (eqb 0 n) (eqb 1 block) (eqb 2 block) (eqb 3 block) (eqb 4 block) (replicate 16 0) (old (Block n block))
    ∙ ap (λ own. cond (own && (eqb 1 block || (eqb 2 block || (eqb 3 block || eqb 4 block)))) (replicate 16 0) (old (Block n block))) (is_zero n)
    ∙ ap (λ one. cond (eqb n 0 && one) (replicate 16 0) (old (Block n block))) (is_one block)

-- six writes, one behind the other, leave what power leaves
pub six_writes : (a b c d e f g : Tables)
    → PutsAt (zeros_to_block 4) a b → PutsAt (zeros_to_block 3) b c → PutsAt (zeros_to_block 2) c d → PutsAt (zeros_to_block 1) d e
    → PutsAt (write 12 (replicate 3 0)) e f → PutsAt (write 0 (0 ∷ [])) f g
    → g ≡ powered a
six_writes a b c d e f g fourth third second first key progress = fun_ext (λ place. let onto : Write → List ℕ → List ℕ = λ w earlier. last_or earlier (written w place) in
    progress place ∙ ap (onto (write 0 (0 ∷ []))) (
    key place ∙ ap (onto (write 12 (replicate 3 0))) (
    first place ∙ ap (onto (zeros_to_block 1)) (
    second place ∙ ap (onto (zeros_to_block 2)) (
    third place ∙ ap (onto (zeros_to_block 3)) (fourth place)))))
    ∙ powered_at a place)

-- the writes that power counts as leave what power leaves
pub value_powered : (initial : Initial) (writes : List Write) → value our_sizes initial (power_writes ++ writes) ≡ powered (value our_sizes initial writes)
value_powered initial writes = fun_ext (powered_at (value our_sizes initial writes))
