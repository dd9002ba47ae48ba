-- The columns of a body and its layout give each other back.
use Rattle.std.proofs.Common.{◌≡◌, ℕ, ◌+◌, ◌<◌, ◌≤◌, List, [], ◌∷◌, ◌++◌, length, drop, refl, ap, ◌∙◌, arith}
use Rattle.std.proofs.lemmas.List.{length-append, append-nil}
use Rattle.byteorder.specs.Endian.{big_bytes}
use Rattle.pet_body.specs.declared.body.Body.{Body}
use Rattle.pet_body.specs.Layout.{layout, body_in, octet_of, octets_of, number_of}
use Rattle.pet_body.proofs.Parts.{AreOctets, part_joins, octet_joins, pair_joins, quad_joins, behind, part_at, octet_at, number_at}

-- the columns of octets, laid out again, are these octets
pub columns_laid : (octets : List ℕ) → AreOctets octets → 46 ≤ length octets → layout (body_in octets) ≡ octets
columns_laid octets fit long =
    let tail = append-nil (drop 46 octets) in
    let system = pair_joins octets 44 46 refl (omega arith) fit tail in
    let manufacturer = quad_joins octets 40 44 refl (omega arith) fit system in
    let language = octet_joins octets 39 40 refl (omega arith) manufacturer in
    let event_data = part_joins octets 31 8 39 refl language in
    let instance = octet_joins octets 30 31 refl (omega arith) event_data in
    let entity = octet_joins octets 29 30 refl (omega arith) instance in
    let sensor = octet_joins octets 28 29 refl (omega arith) entity in
    let device = octet_joins octets 27 28 refl (omega arith) sensor in
    let severity = octet_joins octets 26 27 refl (omega arith) device in
    let event_source = octet_joins octets 25 26 refl (omega arith) severity in
    let trap_source = octet_joins octets 24 25 refl (omega arith) event_source in
    let utc = pair_joins octets 22 24 refl (omega arith) fit trap_source in
    let timestamp = quad_joins octets 18 22 refl (omega arith) fit utc in
    let sequence = pair_joins octets 16 18 refl (omega arith) fit timestamp in
    part_joins octets 0 16 16 refl sequence

-- what the types of a body's fields say of them
pub record IsTyped (body : Body) : Type 0 where
  pub guid : length body.guid ≡ 16
  pub sequence : body.sequence < 65536
  pub timestamp : body.timestamp < 4294967296
  pub utc : body.utc < 65536
  pub event_data : length body.event_data ≡ 8
  pub manufacturer : body.manufacturer < 4294967296
  pub system : body.system < 65536

-- the octets that a body is laid out as have its columns
pub layout_read : (octets : List ℕ) (body : Body) → IsTyped body → octets ≡ layout body → body_in octets ≡ body
layout_read octets body typed laid =
    let from46 : List ℕ = body.tail ++ [] in
    let from44 : List ℕ = big_bytes 2 body.system ++ from46 in
    let from40 : List ℕ = big_bytes 4 body.manufacturer ++ from44 in
    let from39 : List ℕ = body.language ∷ from40 in
    let from31 : List ℕ = body.event_data ++ from39 in
    let from30 : List ℕ = body.instance ∷ from31 in
    let from29 : List ℕ = body.entity ∷ from30 in
    let from28 : List ℕ = body.sensor ∷ from29 in
    let from27 : List ℕ = body.device ∷ from28 in
    let from26 : List ℕ = body.severity ∷ from27 in
    let from25 : List ℕ = body.event_source ∷ from26 in
    let from24 : List ℕ = body.trap_source ∷ from25 in
    let from22 : List ℕ = big_bytes 2 body.utc ++ from24 in
    let from18 : List ℕ = big_bytes 4 body.timestamp ++ from22 in
    let from16 : List ℕ = big_bytes 2 body.sequence ++ from18 in
    let at16 = behind octets 0 16 16 body.guid from16 refl typed.guid laid in
    let at18 = behind octets 16 2 18 (big_bytes 2 body.sequence) from18 refl refl at16 in
    let at22 = behind octets 18 4 22 (big_bytes 4 body.timestamp) from22 refl refl at18 in
    let at24 = behind octets 22 2 24 (big_bytes 2 body.utc) from24 refl refl at22 in
    let at25 = behind octets 24 1 25 (body.trap_source ∷ []) from25 refl refl at24 in
    let at26 = behind octets 25 1 26 (body.event_source ∷ []) from26 refl refl at25 in
    let at27 = behind octets 26 1 27 (body.severity ∷ []) from27 refl refl at26 in
    let at28 = behind octets 27 1 28 (body.device ∷ []) from28 refl refl at27 in
    let at29 = behind octets 28 1 29 (body.sensor ∷ []) from29 refl refl at28 in
    let at30 = behind octets 29 1 30 (body.entity ∷ []) from30 refl refl at29 in
    let at31 = behind octets 30 1 31 (body.instance ∷ []) from31 refl refl at30 in
    let at39 = behind octets 31 8 39 body.event_data from39 refl typed.event_data at31 in
    let at40 = behind octets 39 1 40 (body.language ∷ []) from40 refl refl at39 in
    let at44 = behind octets 40 4 44 (big_bytes 4 body.manufacturer) from44 refl refl at40 in
    let at46 = behind octets 44 2 46 (big_bytes 2 body.system) from46 refl refl at44 in
    let guid : octets_of 1 16 octets ≡ body.guid = part_at octets 0 16 body.guid from16 typed.guid laid in
    let sequence : number_of 17 18 octets ≡ body.sequence = number_at octets 16 2 body.sequence from18 typed.sequence at16 in
    let timestamp : number_of 19 22 octets ≡ body.timestamp = number_at octets 18 4 body.timestamp from22 typed.timestamp at18 in
    let utc : number_of 23 24 octets ≡ body.utc = number_at octets 22 2 body.utc from24 typed.utc at22 in
    let trap_source : octet_of 25 octets ≡ body.trap_source = octet_at octets 24 body.trap_source from25 at24 in
    let event_source : octet_of 26 octets ≡ body.event_source = octet_at octets 25 body.event_source from26 at25 in
    let severity : octet_of 27 octets ≡ body.severity = octet_at octets 26 body.severity from27 at26 in
    let device : octet_of 28 octets ≡ body.device = octet_at octets 27 body.device from28 at27 in
    let sensor : octet_of 29 octets ≡ body.sensor = octet_at octets 28 body.sensor from29 at28 in
    let entity : octet_of 30 octets ≡ body.entity = octet_at octets 29 body.entity from30 at29 in
    let instance : octet_of 31 octets ≡ body.instance = octet_at octets 30 body.instance from31 at30 in
    let event_data : octets_of 32 39 octets ≡ body.event_data = part_at octets 31 8 body.event_data from39 typed.event_data at31 in
    let language : octet_of 40 octets ≡ body.language = octet_at octets 39 body.language from40 at39 in
    let manufacturer : number_of 41 44 octets ≡ body.manufacturer = number_at octets 40 4 body.manufacturer from44 typed.manufacturer at40 in
    let system : number_of 45 46 octets ≡ body.system = number_at octets 44 2 body.system from46 typed.system at44 in
    let tail : drop 46 octets ≡ body.tail = at46 ∙ append-nil body.tail in
    rw (guid, sequence, timestamp, utc, trap_source, event_source, severity, device, sensor, entity, instance, event_data, language, manufacturer, system, tail) refl

-- 46 octets stand before the tail
pub length-layout : (body : Body) → length body.guid ≡ 16 → length body.event_data ≡ 8 → length (layout body) ≡ 46 + length body.tail
length-layout body sixteen eight =
    let sources : List ℕ = body.trap_source ∷ body.event_source ∷ body.severity ∷ body.device ∷ body.sensor ∷ body.entity ∷ body.instance ∷ [] in
    let middle : List ℕ = big_bytes 2 body.sequence ++ (big_bytes 4 body.timestamp ++ (big_bytes 2 body.utc ++ sources)) in
    let last : List ℕ = body.language ∷ big_bytes 4 body.manufacturer ++ big_bytes 2 body.system in
    let middle_length : length middle ≡ 15 = refl in
    let last_length : length last ≡ 7 = refl in
    let parts : length (layout body) ≡ length (body.guid ++ (middle ++ (body.event_data ++ (last ++ (body.tail ++ []))))) = refl in
    omega (
      arith,
      length-append body.guid (middle ++ (body.event_data ++ (last ++ (body.tail ++ [])))),
      length-append middle (body.event_data ++ (last ++ (body.tail ++ []))),
      length-append body.event_data (last ++ (body.tail ++ [])),
      length-append last (body.tail ++ []),
      ap length (append-nil body.tail),
    )
