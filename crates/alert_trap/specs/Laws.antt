-- What holds of the trap of any alert.
use Rattle.std.specs.Prelude.{◌≡◌, ℕ, ◌^◌, ◌<◌, ◌≤◌, List, length, get_or, Option, Some}
use Rattle.snmp_trap.specs.Grammar.{Seen, IsTrap}
use Rattle.snmp_trap.specs.Shortest.{Shortest}
use Rattle.pet_body.specs.Layout.{body_in}
use Rattle.alert_trap.specs.declared.origin.Origin.{Origin}
use Rattle.alert_trap.specs.declared.draw.Draw.{Draw}
use Rattle.alert_trap.specs.Trap.{alert_body, trap_for, trap_octets}

-- how many octets each part has, and how great each number may be
pub record CanBeSent (origin : Origin) (draw : Draw) (event : Option (List ℕ)) (text_octets community_octets : List ℕ) : Type 0 where
  pub agent : length origin.agent ≡ 4
  pub manufacturer : origin.manufacturer < 2 ^ 32
  pub system : origin.system < 2 ^ 16
  pub guid : length draw.guid ≡ 16
  pub sequence : draw.sequence < 2 ^ 16
  pub stamp : draw.stamp < 2 ^ 32
  pub octets : (held : List ℕ) → event ≡ Some held → (i : ℕ) → get_or held i 0 < 256
  pub text : length text_octets ≤ 61
  pub community : length community_octets ≤ 18

-- the octets say this trap, in the shortest way, and no other; its body is the alert's
pub record IsItsTrap (origin : Origin) (draw : Draw) (event : Option (List ℕ)) (severity : ℕ) (text community : List ℕ) : Type 0 where
  pub shortest : Shortest (trap_for origin draw event severity text community) (trap_octets origin draw event severity text community)
  pub is_trap : IsTrap (trap_octets origin draw event severity text community) (trap_for origin draw event severity text community)
  pub only : (other : Seen) → IsTrap (trap_octets origin draw event severity text community) other
      → other ≡ trap_for origin draw event severity text community
  pub body : body_in (trap_for origin draw event severity text community).body ≡ alert_body origin draw event severity text
  pub few : length (trap_octets origin draw event severity text community) ≤ 190
