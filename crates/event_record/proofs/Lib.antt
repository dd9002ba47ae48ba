pub mod Examples
pub mod Grown
