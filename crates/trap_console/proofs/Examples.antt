-- Worked examples of the definitions: a fan's trap three times, the second with sequence number 0002h; one with another GUID and one with
-- another timestamp; one that is cut off.
use Rattle.std.proofs.Common.{◌≡◌, ℕ, ◌*◌, List, [], ◌∷◌, ◌++◌, take, Some, None, refl}
use Rattle.board_core.specs.declared.step.Address.{Address}
use Rattle.board_core.specs.declared.step.Step.TheVariants.{Datagram as Send}
use Rattle.board_core.specs.declared.step.Told.TheVariants.{Done, Failed}
use Rattle.snmp_trap.specs.declared.refusal.Why.TheVariants.{Truncated}
use Rattle.snmp_trap.specs.Refusals.{refusal}
use Rattle.snmp_trap.specs.Reading.{element_at, length_at, cut_at, number_at, this_at, enterprise_at, agent_at, body_at, named_at, binding_at, bindings_at, trap_part_at, message_at, read}
use Rattle.pef_engine.specs.declared.entry.Entry.{Entry}
use Rattle.pef_engine.specs.declared.entry.Entry.TheVariants.{Item as Taken, Outcome}
use Rattle.trap_console.specs.declared.heard.Heard.TheVariants.{New, Again, Refused, Nothing}
use Rattle.trap_console.specs.declared.item.Item.{Item}
use Rattle.trap_console.specs.declared.item.Item.TheVariants.{Datagram, Open, Close}
use Rattle.trap_console.specs.declared.row.Row.{Row}
use Rattle.pet_body.specs.Layout.{body_in}
use Rattle.trap_console.specs.Heard.{rows_of, heard_after}
use Rattle.trap_console.specs.Histories.{ack_port, pending, encode}

-- the body with this first octet of the GUID, and these last ones of the sequence number and the timestamp
abbrev body : ℕ → ℕ → ℕ → List ℕ
body guid sequence timestamp =
    guid ∷ 0x11 ∷ 0x22 ∷ 0x33 ∷ 0x44 ∷ 0x55 ∷ 0x66 ∷ 0x77 ∷ 0x88 ∷ 0x99 ∷ 0xAA ∷ 0xBB ∷ 0xCC ∷ 0xDD ∷ 0xEE ∷ 0xFF ∷
    0x00 ∷ sequence ∷ 0x06 ∷ 0xEF ∷ 0xED ∷ timestamp ∷ 0xFF ∷ 0xFF ∷ 0x20 ∷ 0x20 ∷ 0x10 ∷ 0x20 ∷ 0x30 ∷ 0x00 ∷ 0x00 ∷
    0x52 ∷ 0x10 ∷ 0x20 ∷ 0x00 ∷ 0x00 ∷ 0x00 ∷ 0x00 ∷ 0x00 ∷ 0xFF ∷ 0x00 ∷ 0x01 ∷ 0x86 ∷ 0x9F ∷ 0x00 ∷ 0x01 ∷ 0xC1 ∷ []

abbrev trap : ℕ → ℕ → ℕ → List ℕ
trap guid sequence timestamp =
    (0x30 ∷ 0x6A ∷ 0x02 ∷ 0x01 ∷ 0x00 ∷ 0x04 ∷ 0x06 ∷ 0x70 ∷ 0x75 ∷ 0x62 ∷ 0x6C ∷ 0x69 ∷ 0x63 ∷ 0xA4 ∷ 0x5D ∷
    0x06 ∷ 0x09 ∷ 0x2B ∷ 0x06 ∷ 0x01 ∷ 0x04 ∷ 0x01 ∷ 0x98 ∷ 0x6F ∷ 0x01 ∷ 0x01 ∷
    0x40 ∷ 0x04 ∷ 0x0A ∷ 0x00 ∷ 0x00 ∷ 0x02 ∷ 0x02 ∷ 0x01 ∷ 0x06 ∷ 0x02 ∷ 0x03 ∷ 0x04 ∷ 0x01 ∷ 0x02 ∷ 0x43 ∷ 0x01 ∷ 0x00 ∷
    0x30 ∷ 0x3F ∷ 0x30 ∷ 0x3D ∷ 0x06 ∷ 0x0A ∷ 0x2B ∷ 0x06 ∷ 0x01 ∷ 0x04 ∷ 0x01 ∷ 0x98 ∷ 0x6F ∷ 0x01 ∷ 0x01 ∷ 0x01 ∷ 0x04 ∷ 0x2F ∷ [])
    ++ body guid sequence timestamp

abbrev sender : Address
sender = record { ip = 10 ∷ 0 ∷ 0 ∷ 2 ∷ []; port = 32768 }

abbrev heard : ℕ → ℕ → ℕ → Entry Item
heard guid sequence timestamp = Taken (Datagram sender (trap guid sequence timestamp))

abbrev row : ℕ → ℕ → ℕ → Row
row guid sequence timestamp = record { from = sender; specific = 0x040102; body = body_in (body guid sequence timestamp) }

-- port 623
abbrev settings : List ℕ
settings = 0x6F ∷ 0x02 ∷ []

-- the PET Acknowledge request of the trap, to port 623 at the sender's address
abbrev request : ℕ → ℕ → List ℕ
request sequence checksum =
    0x06 ∷ 0x00 ∷ 0xFF ∷ 0x07 ∷ 0x00 ∷ 0x00 ∷ 0x00 ∷ 0x00 ∷ 0x00 ∷ 0x00 ∷ 0x00 ∷ 0x00 ∷ 0x00 ∷ 0x13 ∷ 0x20 ∷ 0x10 ∷
    0xD0 ∷ 0x81 ∷ 4 * sequence ∷ 0x17 ∷ sequence ∷ 0x00 ∷ 0x80 ∷ 0xED ∷ 0xEF ∷ 0x06 ∷ 0x20 ∷ 0x20 ∷ 0x30 ∷ 0x52 ∷ 0x10 ∷ 0x20 ∷ checksum ∷ []

abbrev once : List (Entry Item)
once = Taken (Open 1 3) ∷ heard 0x00 1 0x80 ∷ []

abbrev twice : List (Entry Item)
twice = once ++ Outcome Done ∷ heard 0x00 2 0x80 ∷ []

abbrev thrice : List (Entry Item)
thrice = twice ++ Outcome Failed ∷ heard 0x00 1 0x80 ∷ []

one_row : rows_of once ≡ row 0x00 1 0x80 ∷ []
unfolding element_at length_at cut_at number_at this_at enterprise_at agent_at body_at named_at binding_at bindings_at trap_part_at message_at read
one_row = refl

two_rows : rows_of thrice ≡ row 0x00 1 0x80 ∷ row 0x00 2 0x80 ∷ []
unfolding element_at length_at cut_at number_at this_at enterprise_at agent_at body_at named_at binding_at bindings_at trap_part_at message_at read
two_rows = refl

are_heard : (heard_after [] ≡ Nothing) × (heard_after once ≡ New 1) × (heard_after twice ≡ New 2) × (heard_after (twice ++ Outcome Failed ∷ []) ≡ New 2) × (heard_after thrice ≡ Again 1) × (heard_after (thrice ++ Taken Close ∷ []) ≡ Nothing)
unfolding element_at length_at cut_at number_at this_at enterprise_at agent_at body_at named_at binding_at bindings_at trap_part_at message_at read
are_heard = (refl, refl, refl, refl, refl, refl)

other_keys : rows_of (heard 0x00 1 0x80 ∷ heard 0x01 1 0x80 ∷ heard 0x00 1 0x81 ∷ []) ≡ row 0x00 1 0x80 ∷ row 0x01 1 0x80 ∷ row 0x00 1 0x81 ∷ []
unfolding element_at length_at cut_at number_at this_at enterprise_at agent_at body_at named_at binding_at bindings_at trap_part_at message_at read
other_keys = refl

port : ack_port settings ≡ 623
port = refl

-- an acknowledgement is due behind each of them, and none behind its outcome
are_due : (pending settings once ≡ Some (Send (record { ip = 10 ∷ 0 ∷ 0 ∷ 2 ∷ []; port = 623 }) (request 1 0x0F)))
    × (pending settings (once ++ Outcome Done ∷ []) ≡ None)
    × (pending settings thrice ≡ Some (Send (record { ip = 10 ∷ 0 ∷ 0 ∷ 2 ∷ []; port = 623 }) (request 1 0x0F)))
unfolding element_at length_at cut_at number_at this_at enterprise_at agent_at body_at named_at binding_at bindings_at trap_part_at message_at read
are_due = (refl, refl, refl)

-- what is cut off after 50 octets is no trap, makes no row and asks for nothing
abbrev cut : List (Entry Item)
cut = Taken (Datagram sender (take 50 (trap 0x00 1 0x80))) ∷ []

is_refused : (heard_after cut ≡ Refused (refusal 50 Truncated)) × (rows_of cut ≡ []) × (pending settings cut ≡ None)
unfolding element_at length_at cut_at read
is_refused = (refl, refl, refl)

octets : encode (Taken (Datagram sender (0x30 ∷ 0x00 ∷ []))) ≡ 0x21 ∷ 10 ∷ 0 ∷ 0 ∷ 2 ∷ 0x00 ∷ 0x80 ∷ 0x30 ∷ 0x00 ∷ []
octets = refl
