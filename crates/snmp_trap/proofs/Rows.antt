-- The definitions at one message, octet by octet: a fan below its lower critical threshold.
use Rattle.std.proofs.Common.{◌≡◌, ℕ, List, [], ◌∷◌, ◌++◌, take, refl, subst, arith}
use Rattle.snmp_trap.specs.declared.refusal.Why.TheVariants.{Truncated, Length, Trailing}
use Rattle.snmp_trap.specs.Grammar.{Seen, IsTrap}
use Rattle.snmp_trap.specs.Refusals.{refusal, RefusedTrap}
use Rattle.snmp_trap.specs.Shortest.{Shortest, HasSpelling}
use Rattle.snmp_trap.specs.Reading.{element_at, length_at, cut_at, number_at, this_at, enterprise_at, agent_at, body_at, named_at, binding_at, bindings_at, trap_part_at, message_at, read}
use Rattle.snmp_trap.specs.Spelling.{number_element, list, trap_part, spelling}
use Rattle.snmp_trap.proofs.Message.{read_exact}
use Rattle.snmp_trap.proofs.Spelled.{shortest}

abbrev body : List ℕ
body =
    0x00 ∷ 0x11 ∷ 0x22 ∷ 0x33 ∷ 0x44 ∷ 0x55 ∷ 0x66 ∷ 0x77 ∷ 0x88 ∷ 0x99 ∷ 0xAA ∷ 0xBB ∷ 0xCC ∷ 0xDD ∷ 0xEE ∷ 0xFF ∷
    0x00 ∷ 0x01 ∷ 0x06 ∷ 0xEF ∷ 0xED ∷ 0x80 ∷ 0xFF ∷ 0xFF ∷ 0x20 ∷ 0x20 ∷ 0x10 ∷ 0x20 ∷ 0x30 ∷ 0x00 ∷ 0x00 ∷
    0x52 ∷ 0x10 ∷ 0x20 ∷ 0x00 ∷ 0x00 ∷ 0x00 ∷ 0x00 ∷ 0x00 ∷ 0xFF ∷ 0x00 ∷ 0x01 ∷ 0x86 ∷ 0x9F ∷ 0x00 ∷ 0x01 ∷ 0xC1 ∷ []

abbrev behind_length : List ℕ
behind_length =
    (0x02 ∷ 0x01 ∷ 0x00 ∷ 0x04 ∷ 0x06 ∷ 0x70 ∷ 0x75 ∷ 0x62 ∷ 0x6C ∷ 0x69 ∷ 0x63 ∷ 0xA4 ∷ 0x5D ∷
    0x06 ∷ 0x09 ∷ 0x2B ∷ 0x06 ∷ 0x01 ∷ 0x04 ∷ 0x01 ∷ 0x98 ∷ 0x6F ∷ 0x01 ∷ 0x01 ∷
    0x40 ∷ 0x04 ∷ 0x0A ∷ 0x00 ∷ 0x00 ∷ 0x02 ∷ 0x02 ∷ 0x01 ∷ 0x06 ∷ 0x02 ∷ 0x03 ∷ 0x04 ∷ 0x01 ∷ 0x02 ∷ 0x43 ∷ 0x01 ∷ 0x00 ∷
    0x30 ∷ 0x3F ∷ 0x30 ∷ 0x3D ∷ 0x06 ∷ 0x0A ∷ 0x2B ∷ 0x06 ∷ 0x01 ∷ 0x04 ∷ 0x01 ∷ 0x98 ∷ 0x6F ∷ 0x01 ∷ 0x01 ∷ 0x01 ∷ 0x04 ∷ 0x2F ∷ []) ++ body

abbrev octets : List ℕ
octets = 0x30 ∷ 0x6A ∷ behind_length

abbrev view : Seen
view = record {
  community = 0x70 ∷ 0x75 ∷ 0x62 ∷ 0x6C ∷ 0x69 ∷ 0x63 ∷ [];
  agent = 10 ∷ 0 ∷ 0 ∷ 2 ∷ [];
  specific = 0x040102;
  ticks = 0;
  body = body;
}

-- it is a trap, and says this
pub row_read : IsTrap octets view
unfolding element_at length_at cut_at number_at this_at enterprise_at agent_at body_at named_at binding_at bindings_at trap_part_at message_at read
row_read = (read_exact octets).ok view refl

-- a length longer than needed
pub row_long_length : IsTrap (0x30 ∷ 0x82 ∷ 0x00 ∷ 0x6A ∷ behind_length) view
unfolding element_at length_at cut_at number_at this_at enterprise_at agent_at body_at named_at binding_at bindings_at trap_part_at message_at read
row_long_length = (read_exact (0x30 ∷ 0x82 ∷ 0x00 ∷ 0x6A ∷ behind_length)).ok view refl

-- a length without end
pub row_length : RefusedTrap (0x30 ∷ 0x80 ∷ behind_length) Length 1
unfolding element_at length_at read
row_length = (read_exact (0x30 ∷ 0x80 ∷ behind_length)).err (refusal 1 Length) refl

-- cut after 50 octets
pub row_cut : RefusedTrap (take 50 octets) Truncated 50
unfolding element_at length_at cut_at read
row_cut = (read_exact (take 50 octets)).err (refusal 50 Truncated) refl

-- an octet behind it
pub row_more : RefusedTrap (octets ++ 0 ∷ []) Trailing 108
unfolding element_at length_at cut_at number_at this_at enterprise_at agent_at body_at named_at binding_at bindings_at trap_part_at message_at read
row_more = (read_exact (octets ++ 0 ∷ [])).err (refusal 108 Trailing) refl

row_spelled : spelling view ≡ octets
unfolding number_element list trap_part spelling
row_spelled = refl

-- and it is the shortest spelling
pub row_shortest : Shortest view octets
row_shortest =
    let fits : HasSpelling view = record { four = refl; specific = omega arith; ticks = omega arith; body = record { least = omega arith; most = omega arith } } in
    subst (Shortest view) row_spelled (shortest view fits (omega arith))
