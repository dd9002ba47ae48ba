pub mod Settings
pub mod Octets
