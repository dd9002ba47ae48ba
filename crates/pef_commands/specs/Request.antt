-- What a request is: IPMI 2.0, section 5.1. That it has at most 64 octets of data is this project's rule.
use Rattle.std.specs.Prelude.{ℕ, ◌&&◌, nat_le, List, length, Option, Some, None, if◌then◌else◌}

-- network function, command, data
pub record Asked : Type 0 where
  pub netfn : ℕ
  pub cmd : ℕ
  pub payload : List ℕ

-- a network function has six bits
abbrev pub request_of : ℕ → ℕ → List ℕ → Option Asked
request_of netfn cmd payload =
    if nat_le netfn 0x3F && nat_le (length payload) 64
    then Some (record { netfn = netfn; cmd = cmd; payload = payload })
    else None
