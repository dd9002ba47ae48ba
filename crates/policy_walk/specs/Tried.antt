-- Which stops of a policy set an alert is attempted at: the policies of IPMI 2.0, section 17.11. This project's readings are that the
-- alert before is the last one attempted in this set, that another channel or destination type is another one than that of the stop
-- that isn't attempted, and that the stop reached so is judged by its own policy.
use Rattle.std.specs.Prelude.{ℕ, ◌+◌, Bool, true, false, not, ◌&&◌, ◌||◌, ◌==◌, if◌then◌else◌, List, [], ◌∷◌, length, slice_get, Option}
use Rattle.policy_walk.specs.declared.stop.Stop.{Stop}

-- what the next stop has to be: any, on another channel than this, of another type than this, or there is none
pub data Wanted : Type 0 where
  Any NoStop : Wanted
  OtherChannel OtherKind : ℕ → Wanted

abbrev pub is_wanted : Wanted → Stop → Bool
is_wanted Any stop = true
is_wanted NoStop stop = false
is_wanted (OtherChannel channel) stop = not (stop.channel == channel)
is_wanted (OtherKind kind) stop = not (stop.kind == kind)

-- An alert always goes to a stop of policy 0, and to another unless the alert before succeeded.
abbrev pub is_tried : Wanted → Bool → Stop → Bool
is_tried wanted succeeded stop = is_wanted wanted stop && ((stop.policy == 0) || not succeeded)

-- A stop that no alert goes to is passed by its own policy: 1 to the next stop, 2 to the end of the set, 3 to the next on another
-- channel, 4 to the next with another type of destination.
abbrev pub wanted_after : Stop → Wanted
wanted_after stop =
    if stop.policy == 2 then NoStop
    else (if stop.policy == 3 then OtherChannel stop.channel
    else (if stop.policy == 4 then OtherKind stop.kind else Any))

abbrev pub passed : Wanted → Stop → Wanted
passed wanted stop = if is_wanted wanted stop then wanted_after stop else wanted

-- The places of the stops attempted, from this place on: the k-th attempt ends with the k-th result, and whether there is a next one
-- hangs on that.
abbrev pub tried_on : (Bool → List Bool → List ℕ) → List Bool → List ℕ
tried_on go_on [] = []
tried_on go_on (result ∷ results) = go_on result results

abbrev pub tried_from : Wanted → Bool → ℕ → List Stop → List Bool → List ℕ
tried_from wanted succeeded place [] results = []
tried_from wanted succeeded place (stop ∷ stops) results =
    if is_tried wanted succeeded stop
    then place ∷ tried_on (λ result left. tried_from Any result (place + 1) stops left) results
    else tried_from (passed wanted stop) succeeded (place + 1) stops results

-- The places attempted in a set, counted from 0, where nothing was attempted before.
abbrev pub tried : List Stop → List Bool → List ℕ
tried stops results = tried_from Any false 0 stops results

-- the place to be attempted after these results; none where the set is over
abbrev pub place_after : List Stop → List Bool → Option ℕ
place_after stops results = slice_get (tried stops results) (length results)
