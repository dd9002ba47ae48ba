pub mod Octets
pub mod Attempts
pub mod Countdown
pub mod Parameters
pub mod Rows
pub mod Arrays
pub mod Kept
pub mod Usable
