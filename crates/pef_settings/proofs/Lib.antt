pub mod Reading
pub mod Guids
