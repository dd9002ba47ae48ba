pub mod Bits
pub mod WrongBits
pub mod Decided
pub mod Examples
