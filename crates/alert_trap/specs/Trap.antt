-- The trap of an alert: its body by PET 1.0, in a message by RFC 1157, section 4.1.6. What a body takes from an event stands in pet_body,
-- the octets of a message in snmp_trap. That the GUID, the sequence number and the time-stamp are those which the alert drew when it
-- began, also where its trap is sent again, is this project's rule.
use Rattle.std.specs.Prelude.{ℕ, List, Option}
use Rattle.pet_body.specs.declared.body.Body.{Body}
use Rattle.pet_body.specs.declared.event.Identity.{Identity}
use Rattle.pet_body.specs.Event.{body_for, specific_for}
use Rattle.pet_body.specs.Layout.{layout}
use Rattle.snmp_trap.specs.Grammar.{Seen}
use Rattle.snmp_trap.specs.Spelling.{spelling}
use Rattle.alert_trap.specs.declared.origin.Origin.{Origin}
use Rattle.alert_trap.specs.declared.draw.Draw.{Draw}

-- the system that sends, as the body names it
abbrev pub identity_by : Origin → Draw → Identity
identity_by origin draw = record { guid = draw.guid; manufacturer = origin.manufacturer; system = origin.system }

-- event, severity, text
abbrev pub alert_body : Origin → Draw → Option (List ℕ) → ℕ → List ℕ → Body
alert_body origin draw event severity text = body_for event (identity_by origin draw) draw.sequence severity text

-- event, severity, text, community
abbrev pub trap_for : Origin → Draw → Option (List ℕ) → ℕ → List ℕ → List ℕ → Seen
trap_for origin draw event severity text community = record {
  community = community;
  agent = origin.agent;
  specific = specific_for event;
  ticks = draw.stamp;
  body = layout (alert_body origin draw event severity text);
}

-- the octets of the datagram
abbrev pub trap_octets : Origin → Draw → Option (List ℕ) → ℕ → List ℕ → List ℕ → List ℕ
trap_octets origin draw event severity text community = spelling (trap_for origin draw event severity text community)
