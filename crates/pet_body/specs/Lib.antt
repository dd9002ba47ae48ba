pub mod Layout
pub mod Tail
pub mod Event
