pub mod Sent
pub mod Examples
