-- A checksum is the one octet that makes the sum 0 modulo 256.
use Rattle.std.proofs.Common.{◌≡◌, ℕ, ◌+◌, ◌-◌, ◌%◌, ◌<◌, List, [], ◌∷◌, refl, arith}
use Rattle.std.specs.Prelude.{sum}
use Rattle.asf_rmcp.specs.Layout.{IsChecksum}
use Rattle.asf_rmcp.specs.Refusals.{checksum_of}

small : (n : ℕ) → (256 - n % 256) % 256 < 256
small n = omega arith

zero_sum : (n : ℕ) → (n + (256 - n % 256) % 256) % 256 ≡ 0
zero_sum n = omega arith

only : (n c : ℕ) → c < 256 → (n + c) % 256 ≡ 0 → c ≡ (256 - n % 256) % 256
only n c h e = omega arith

pub is_checksum : (part : List ℕ) → IsChecksum part (checksum_of part)
is_checksum part = record { octet = small (sum part); zero_sum = zero_sum (sum part) }

pub only_checksum : (part : List ℕ) (c : ℕ) → IsChecksum part c → c ≡ checksum_of part
only_checksum part c is = only (sum part) c is.octet is.zero_sum

-- of the addressee 20h and the network function octet 10h
row_request : checksum_of (0x20 ∷ 0x10 ∷ []) ≡ 0xD0
row_request = refl
