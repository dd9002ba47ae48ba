-- The definitions on a fan's event: sensor type 04h, sensor 30h, data 52h 10h 20h, at 1000000000 seconds since 1970-01-01.
use Rattle.std.proofs.Common.{◌≡◌, ℕ, List, [], ◌∷◌, Some, None, refl}
use Rattle.pet_body.specs.declared.body.Body.{Body}
use Rattle.pet_body.specs.declared.event.Identity.{Identity}
use Rattle.pet_body.specs.Layout.{layout, body_in, length_fault}
use Rattle.pet_body.specs.Tail.{tail_for, text_in}
use Rattle.pet_body.specs.Event.{local_time, body_for, specific_for, ack_for}

-- the fan's event with this event trigger
abbrev fan : ℕ → List ℕ
fan trigger = 0x01 ∷ 0x00 ∷ 0x02 ∷ 0x00 ∷ 0xCA ∷ 0x9A ∷ 0x3B ∷ 0x20 ∷ 0x00 ∷ 0x04 ∷ 0x04 ∷ 0x30 ∷ trigger ∷ 0x52 ∷ 0x10 ∷ 0x20 ∷ []

abbrev identity : Identity
identity = record {
  guid = 0x00 ∷ 0x11 ∷ 0x22 ∷ 0x33 ∷ 0x44 ∷ 0x55 ∷ 0x66 ∷ 0x77 ∷ 0x88 ∷ 0x99 ∷ 0xAA ∷ 0xBB ∷ 0xCC ∷ 0xDD ∷ 0xEE ∷ 0xFF ∷ [];
  manufacturer = 99999;
  system = 1;
}

abbrev octets : List ℕ
octets =
    0x00 ∷ 0x11 ∷ 0x22 ∷ 0x33 ∷ 0x44 ∷ 0x55 ∷ 0x66 ∷ 0x77 ∷ 0x88 ∷ 0x99 ∷ 0xAA ∷ 0xBB ∷ 0xCC ∷ 0xDD ∷ 0xEE ∷ 0xFF
    ∷ 0x00 ∷ 0x01 ∷ 0x06 ∷ 0xEF ∷ 0xED ∷ 0x80 ∷ 0xFF ∷ 0xFF ∷ 0x20 ∷ 0x20 ∷ 0x10 ∷ 0x20 ∷ 0x30 ∷ 0x00 ∷ 0x00
    ∷ 0x52 ∷ 0x10 ∷ 0x20 ∷ 0x00 ∷ 0x00 ∷ 0x00 ∷ 0x00 ∷ 0x00 ∷ 0xFF ∷ 0x00 ∷ 0x01 ∷ 0x86 ∷ 0x9F ∷ 0x00 ∷ 0x01 ∷ 0xC1 ∷ []

abbrev body : Body
body = body_for (Some (fan 0x01)) identity 1 0x10 []

laid_out : layout body ≡ octets
laid_out = refl

read_back : body_in octets ≡ body
read_back = refl

lengths : length_fault octets ≡ None
lengths = refl

specific : (specific_for (Some (fan 0x01)) ≡ 262402) × (specific_for (Some (fan 0x81)) ≡ 262530) × (specific_for None ≡ 0)
specific = (refl, refl, refl)

times : (local_time (Some 883612799) ≡ 0) × (local_time (Some 883612800) ≡ 0) × (local_time (Some 0xFFFF_FFFF) ≡ 0) × (local_time (Some 1000000000) ≡ 116387200) × (local_time None ≡ 0)
times = (refl, refl, refl, refl, refl)

tails : (tail_for [] ≡ 0xC1 ∷ []) × (tail_for (0x41 ∷ []) ≡ 0xC2 ∷ 0x41 ∷ 0x00 ∷ 0xC1 ∷ [])
tails = (refl, refl)

texts : (text_in (0xC2 ∷ 0x41 ∷ 0x00 ∷ 0xC1 ∷ []) ≡ 0x41 ∷ []) × (text_in (0xC1 ∷ []) ≡ []) × (text_in (0xC2 ∷ 0x41 ∷ 0x01 ∷ []) ≡ []) × (text_in (0xC2 ∷ 0x41 ∷ []) ≡ [])
texts = (refl, refl, refl, refl)

acknowledged : (ack_for body).event_data ≡ 0x52 ∷ 0x10 ∷ 0x20 ∷ []
acknowledged = refl
