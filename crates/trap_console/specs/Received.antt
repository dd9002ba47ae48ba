-- What a datagram says to a console, and how it is acknowledged. What a trap message is stands in RFC 1157 and PET 1.0, what acknowledges
-- it in IPMI 2.0, section 30.8 (PET Acknowledge), and both as octets in snmp_trap, pet_body and asf_rmcp. That each trap is acknowledged,
-- repeats too, to the address that the datagram came from and at the port of the settings, is this project's rule.
use Rattle.std.specs.Prelude.{◌≡◌, ◌↔◌, ℕ, List, Option, Some, None, Result, Ok, Err}
use Rattle.board_core.specs.declared.step.Address.{Address}
use Rattle.board_core.specs.declared.step.Step.{Step}
use Rattle.board_core.specs.declared.step.Step.TheVariants.{Datagram}
use Rattle.snmp_trap.specs.declared.refusal.Refusal.{Refusal}
use Rattle.snmp_trap.specs.declared.refusal.Why.{Why}
use Rattle.snmp_trap.specs.Grammar.{Seen, IsTrap}
use Rattle.snmp_trap.specs.Refusals.{refusal, RefusedTrap}
use Rattle.snmp_trap.specs.Reading.{read}
use Rattle.pet_body.specs.Layout.{body_in}
use Rattle.pet_body.specs.Event.{ack_for}
use Rattle.asf_rmcp.specs.Writing.{lan_frame, ack_message}
use Rattle.trap_console.specs.declared.row.Row.{Row}

-- the row of a trap: who sent it, its specific number and the fields of its body
abbrev pub row_by : Address → Seen → Row
row_by from seen = record { from = from; specific = seen.specific; body = body_in seen.body }

abbrev pub received_by : Address → Result Seen Refusal → Result Row Refusal
received_by from (Ok seen) = Ok (row_by from seen)
received_by from (Err refused) = Err refused

-- the trap in a datagram, or why there is none
abbrev pub received : Address → List ℕ → Result Row Refusal
received from octets = received_by from (read octets)

-- The same by the grammar: a row exactly where the octets are a trap, and a refusal exactly where the grammar's refusals say so.
pub record ReceivesTraps (from : Address) (octets : List ℕ) (result : Result Row Refusal) : Type 0 where
  pub trap : (seen : Seen) → IsTrap octets seen → result ≡ Ok (row_by from seen)
  pub only : (row : Row) → result ≡ Ok row → (seen : Seen) × IsTrap octets seen × (row ≡ row_by from seen)
  pub refused : (why : Why) (at : ℕ) → RefusedTrap octets why at ↔ (result ≡ Err (refusal at why))

-- the acknowledgement of a trap, to its sender's address at this port
abbrev pub ack_step : ℕ → Row → Step
ack_step port row = Datagram (record { ip = row.from.ip; port = port }) (lan_frame (ack_message (ack_for row.body)))

-- a trap asks for its acknowledgement, and what is refused for none
abbrev pub due_by : ℕ → Result Row Refusal → Option Step
due_by port (Ok row) = Some (ack_step port row)
due_by port (Err refused) = None
