-- What the calls of a board in memory amount to, and what a crash at each moment leaves of them.
use Rattle.std.specs.Prelude.{◌≡◌, ◌⊎◌, ℕ, ◌+◌, ◌*◌, ◌≤◌, Bool, true, ◌&&◌, nat_le, List, [], ◌∷◌, length, take}
use Rattle.std.specs.List.{take_while}
use Rattle.board_core.specs.declared.step.Sent.{Sent}
use Rattle.board_core.specs.declared.call.Call.{Call}
use Rattle.board_core.specs.declared.call.Effect.{Effect}
use Rattle.board_core.specs.declared.call.Effect.TheVariants.{Wrote, Spoiled, Synced, Issued}
use Rattle.board_core.specs.File.{put_at}
use Rattle.board_core.specs.Board.{CrashState, Torn, steps_of, tolds_of}

-- a written range of the file
pub record Range : Type 0 where
  pub place : ℕ
  pub count : ℕ

-- where a board stands between two calls
pub record State : Type 1 where
  -- the octets that a read gives
  pub octets : List ℕ
  -- what a crash may leave of the file
  pub images : List ℕ → Type 0
  -- the file as the last sync left it
  pub synced : List ℕ
  -- the ranges written since, the last one first
  pub written : List Range
  -- how many steps were issued
  pub issued : ℕ

-- a board is made: nothing is unsynced, and `earlier` steps were issued before
abbrev pub fresh_state : List ℕ → ℕ → State
fresh_state content earlier = record { octets = content; images = λ c. c ≡ content; synced = content; written = []; issued = earlier }

-- the images after a write of `count` octets at `place`, after which a read gives this file
abbrev pub torn_images : ℕ → ℕ → List ℕ → (List ℕ → Type 0) → List ℕ → Type 0
torn_images place count file images c = (c ≡ file) ⊎ ((d : List ℕ) × images d × Torn place count d c)

abbrev pub after : State → Effect → State
after s (Wrote place octets) = record {
  octets = put_at place octets.items s.octets;
  images = torn_images place (length octets.items) (put_at place octets.items s.octets) s.images;
  synced = s.synced;
  written = record { place = place; count = length octets.items } ∷ s.written;
  issued = s.issued;
}
after s (Spoiled place count) = record {
  octets = s.octets;
  images = torn_images place count s.octets s.images;
  synced = s.synced;
  written = record { place = place; count = count } ∷ s.written;
  issued = s.issued;
}
after s Synced = record { octets = s.octets; images = λ c. c ≡ s.octets; synced = s.octets; written = []; issued = s.issued }
after s Issued = record { octets = s.octets; images = s.images; synced = s.synced; written = s.written; issued = s.issued + 1 }

abbrev pub after_all : State → List Call → State
after_all s [] = s
after_all s (call ∷ calls) = after_all (after s call.effect) calls

-- where a board stands that was made with this content and `earlier` steps, after these calls
abbrev pub state_after : List ℕ → ℕ → List Call → State
state_after content earlier calls = after_all (fresh_state content earlier) calls

-- each write begins within the file, which has this length
abbrev pub is_placed : ℕ → Effect → Bool
is_placed end (Wrote place octets) = nat_le place end
is_placed end (Spoiled place count) = nat_le place end
is_placed end Synced = true
is_placed end Issued = true

abbrev pub are_placed : State → List Call → Bool
are_placed s [] = true
are_placed s (call ∷ calls) = is_placed (length s.octets) call.effect && are_placed (after s call.effect) calls

-- what is kept of a board since it was made: the content and the number of steps that it was made with, the calls that
-- did something, all steps, and the number of all calls
pub record Past : Type 0 where
  pub start : List ℕ
  pub earlier : ℕ
  pub calls : List Call
  pub sent : List Sent
  pub made : ℕ

-- where it stands now
abbrev pub state_of : Past → State
state_of past = state_after past.start past.earlier past.calls

-- The moments of a board: moment 2k stands after the first k calls, and moment 2k + 1 in the middle of the next one.
-- The moment from which on a call has its effect: a sync from its end, any other from its middle.
abbrev pub effective_from : ℕ → Effect → ℕ
effective_from number (Wrote place octets) = 2 * number + 1
effective_from number (Spoiled place count) = 2 * number + 1
effective_from number Synced = 2 * number + 2
effective_from number Issued = 2 * number + 1

abbrev pub is_effective : ℕ → Call → Bool
is_effective moment call = nat_le (effective_from call.number call.effect) moment

abbrev pub is_finished : ℕ → Call → Bool
is_finished moment call = nat_le (2 * call.number + 2) moment

-- where it stood at a moment, by the calls that had their effect by then, and by those that were finished
abbrev pub state_at : Past → ℕ → State
state_at past moment = state_after past.start past.earlier (take_while (is_effective moment) past.calls)

abbrev pub finished_at : Past → ℕ → State
finished_at past moment = state_after past.start past.earlier (take_while (is_finished moment) past.calls)

-- the steps that were issued by a moment, and those of them that were finished
abbrev pub sent_at : Past → ℕ → List Sent
sent_at past moment = take (state_at past moment).issued past.sent

abbrev pub answered_at : Past → ℕ → List Sent
answered_at past moment = take (finished_at past moment).issued past.sent

-- what a crash at this moment may leave
pub record LeavesAt (past : Past) (moment : ℕ) (left : CrashState) : Type 0 where
  pub image : (state_at past moment).images left.image
  pub issued : left.issued ≡ steps_of (sent_at past moment)
  pub told : left.told ≡ tolds_of (answered_at past moment)

-- a board has had this moment
abbrev pub HasMoment : Past → ℕ → Type 0
HasMoment past moment = moment ≤ 2 * past.made

-- what a crash at some moment from this one on may have left
pub record LeftSince (past : Past) (since : ℕ) (left : CrashState) : Type 0 where
  pub moment : ℕ
  pub later : since ≤ moment
  pub had : HasMoment past moment
  pub leaves : LeavesAt past moment left
