-- The definitions on worked sets.
use Rattle.std.proofs.Common.{◌≡◌, ℕ, true, false, List, [], ◌∷◌, map, Some, None, refl}
use Rattle.policy_walk.specs.declared.stop.Stop.{Stop}
use Rattle.policy_walk.specs.Stops.{stop_of}
use Rattle.policy_walk.specs.Tried.{tried, place_after}

-- entries of policy number 1 with the policies 0, 1 and 3, to destinations 1 and 2 of channel 1 and to 1 of channel 2
abbrev entries : List Stop
entries = map (λ entry. stop_of entry 0) ((0x18 ∷ 0x11 ∷ 0x00 ∷ []) ∷ (0x19 ∷ 0x12 ∷ 0x00 ∷ []) ∷ (0x1B ∷ 0x21 ∷ 0x00 ∷ []) ∷ [])

-- no alert was sent yet
first : place_after entries [] ≡ Some 0
first = refl

-- all succeed: the first alone is attempted
one_success : (tried entries (true ∷ []) ≡ 0 ∷ []) × (place_after entries (true ∷ []) ≡ None)
one_success = (refl, refl)

-- the first fails, the second succeeds: the third has policy 3, and no stop behind it is on another channel than its own
second_succeeds : (tried entries (false ∷ true ∷ []) ≡ 0 ∷ 1 ∷ []) × (place_after entries (false ∷ true ∷ []) ≡ None)
second_succeeds = (refl, refl)

all_fail : tried entries (false ∷ false ∷ false ∷ []) ≡ 0 ∷ 1 ∷ 2 ∷ []
all_fail = refl

abbrev at : ℕ → ℕ → ℕ → Stop
at policy channel kind = record { policy = policy; channel = channel; kind = kind }

-- Policy 3 asks for another channel than that of its own stop, not than that of the last one attempted: the third is on channel 1 as
-- the first, and it is reached.
another_channel_than_its_own : tried (at 0 1 0 ∷ at 3 2 0 ∷ at 0 1 0 ∷ []) (true ∷ true ∷ []) ≡ 0 ∷ 2 ∷ []
another_channel_than_its_own = refl

-- the stop reached is judged by its own policy: of policy 2 it ends the set, though a stop of policy 0 is behind it
judged_by_its_own : place_after (at 0 1 0 ∷ at 3 1 0 ∷ at 0 1 0 ∷ at 2 2 0 ∷ at 0 3 0 ∷ []) (true ∷ []) ≡ None
judged_by_its_own = refl

-- policy 4 asks for another type of destination
another_kind : place_after (at 0 1 6 ∷ at 4 1 6 ∷ at 0 2 6 ∷ at 0 1 7 ∷ []) (true ∷ []) ≡ Some 3
another_kind = refl

-- policy 0 is attempted whatever came before, and policy 1 after a failure too
always_and_after_failure : (place_after (at 0 1 0 ∷ at 0 1 0 ∷ []) (true ∷ []) ≡ Some 1) × (place_after (at 0 1 0 ∷ at 1 1 0 ∷ []) (false ∷ []) ≡ Some 1)
always_and_after_failure = (refl, refl)

-- before any alert each policy lets its stop be attempted
first_of_each_policy : (place_after (at 1 1 0 ∷ []) [] ≡ Some 0) × (place_after (at 2 1 0 ∷ []) [] ≡ Some 0) × (place_after (at 3 1 0 ∷ []) [] ≡ Some 0) × (place_after (at 4 1 0 ∷ []) [] ≡ Some 0)
first_of_each_policy = (refl, refl, refl, refl)

-- a set without stops is over at once
none : place_after [] [] ≡ None
none = refl
