-- What a crash leaves of a board in memory.
use Rattle.std.specs.Prelude.{◌≡◌, ℕ, List}
use Rattle.board_core.specs.Moments.{State, state_after}
use Rattle.board_core.specs.TornImage.{IsLongestTorn}
use Rattle.board_core.specs.declared.call.Call.{Call}
use Rattle.board_core.specs.declared.leaving.Leaving.{Leaving}

-- a crash at this state leaves this, with this octet wherever it may leave any
pub record IsLeftAt (torn : ℕ) (s : State) (left : Leaving) : Type 0 where
  pub file : left.file.items ≡ s.octets
  pub image : s.images left.image.items
  pub longest : IsLongestTorn torn s.synced s.written left.image.items
  pub issued : left.issued ≡ s.issued

-- a crash after these calls leaves this, on a board that was made with this content and `earlier` steps
abbrev pub IsLeft : ℕ → List ℕ → ℕ → List Call → Leaving → Type 0
IsLeft torn content earlier calls left = IsLeftAt torn (state_after content earlier calls) left
