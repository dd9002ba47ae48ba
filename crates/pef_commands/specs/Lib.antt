pub mod Request
pub mod Parsing
