pub mod Traps
pub mod Texts
pub mod Paying
