-- What the parts of an alert can be makes its octets a trap.
use Rattle.std.proofs.Common.{◌≡◌, ℕ, ◌+◌, ◌*◌, ◌^◌, ◌<◌, ◌≤◌, List, [], ◌∷◌, ◌++◌, length, get_or, Bool, true, false, ◌==◌, ◌-◌, nat_lt, if◌then◌else◌, Option, Some, None, refl, sym, ◌∙◌, arith}
use Rattle.std.proofs.lemmas.List.{length-append}
use Rattle.event_record.specs.Fields.{octet, record_type}
use Rattle.snmp_trap.specs.Grammar.{IsBody, Seen}
use Rattle.snmp_trap.specs.Shortest.{HasSpelling}
use Rattle.snmp_trap.specs.Spelling.{spelling}
use Rattle.snmp_trap.proofs.Results.{ok_is}
use Rattle.snmp_trap.proofs.Message.{read_exact}
use Rattle.snmp_trap.proofs.Spelled.{shortest, read_again, length-spelling}
use Rattle.pet_body.specs.Event.{local_time, time_of, data_of, specific_for}
use Rattle.pet_body.specs.Tail.{tail_for}
use Rattle.pet_body.specs.declared.body.Body.{Body}
use Rattle.pet_body.proofs.Columns.{IsTyped, layout_read, length-layout}
use Rattle.alert_trap.specs.declared.origin.Origin.{Origin}
use Rattle.alert_trap.specs.declared.draw.Draw.{Draw}
use Rattle.alert_trap.specs.Trap.{alert_body, trap_for}
use Rattle.alert_trap.specs.Laws.{CanBeSent, IsItsTrap}

-- ---- what a record gives

abbrev AreOctets : Option (List ℕ) → Type 0
AreOctets event = (held : List ℕ) → event ≡ Some held → (i : ℕ) → get_or held i 0 < 256

none_or_less : (b : Bool) (n : ℕ) → n < 2 ^ 32 → (if b then 0 else n) < 2 ^ 32
none_or_less true n lt = omega arith
none_or_less false n lt = lt

stamp_fits : (b : Bool) (stamp : ℕ) → stamp < 2 ^ 32 → local_time (if b then Some stamp else None) < 2 ^ 32
stamp_fits true stamp lt = none_or_less (stamp == 0xFFFF_FFFF) (stamp - 883612800) (omega arith)
stamp_fits false stamp lt = omega arith

time_fits : (event : Option (List ℕ)) → AreOctets event → time_of event < 2 ^ 32
time_fits None fit = omega arith
time_fits (Some held) fit =
    let first = fit held refl 3 in
    let second = fit held refl 4 in
    let third = fit held refl 5 in
    let fourth = fit held refl 6 in
    stamp_fits (nat_lt (record_type held) 0xE0) (octet 4 held + 0x100 * octet 5 held + 0x1_0000 * octet 6 held + 0x100_0000 * octet 7 held) (omega arith)

specific_fits : (event : Option (List ℕ)) → AreOctets event → specific_for event < 2 ^ 24
specific_fits None fit = omega arith
specific_fits (Some held) fit =
    let kind = fit held refl 10 in
    let trigger = fit held refl 12 in
    let first = fit held refl 13 in
    omega arith

eight : (event : Option (List ℕ)) → length (data_of event ++ 0 ∷ 0 ∷ 0 ∷ 0 ∷ 0 ∷ []) ≡ 8
eight None = refl
eight (Some held) = refl

-- ---- how long a body is

one_or_few : (b : Bool) (octets : List ℕ) → length octets ≤ 64 → length (if b then 0xC1 ∷ [] else octets) ≤ 64
one_or_few true octets le = omega arith
one_or_few false octets le = le

tail_fits : (text : List ℕ) → length text ≤ 61 → length (tail_for text) ≤ 64
tail_fits text le =
    let held : List ℕ = (0xC1 + length text) ∷ text ++ 0x00 ∷ 0xC1 ∷ [] in
    let size : length (text ++ 0x00 ∷ 0xC1 ∷ []) ≡ length text + 2 = length-append text (0x00 ∷ 0xC1 ∷ []) in
    one_or_few (length text == 0) held (omega arith)

module _ (origin : Origin) (draw : Draw) (event : Option (List ℕ)) (severity : ℕ) (text community : List ℕ) (can : CanBeSent origin draw event text community) where
  abbrev body : Body
  body = alert_body origin draw event severity text

  abbrev view : Seen
  view = trap_for origin draw event severity text community

  typed : IsTyped body
  typed = record {
    guid = can.guid;
    sequence = can.sequence;
    timestamp = time_fits event can.octets;
    utc = omega arith;
    event_data = eight event;
    manufacturer = can.manufacturer;
    system = can.system;
  }

  is_body : IsBody view.body
  is_body =
      let size = length-layout body can.guid (eight event) in
      let tail = tail_fits text can.text in
      record { least = omega (arith, size); most = omega (arith, size, tail) }

  spelled : HasSpelling view
  spelled = record {
    four = can.agent;
    specific = let few = specific_fits event can.octets in omega arith;
    ticks = can.stamp;
    body = is_body;
  }

  pub is_its_trap : IsItsTrap origin draw event severity text community
  is_its_trap =
      let is = read_again view (spelling view) spelled (shortest view spelled can.community) in
      let exact = read_exact (spelling view) in
      record {
        shortest = shortest view spelled can.community;
        is_trap = is;
        only = λ other it. sym (ok_is view other (sym (exact.again view is) ∙ exact.again other it));
        body = layout_read view.body body typed refl;
        few = length-spelling view spelled can.community (specific_fits event can.octets);
      }
