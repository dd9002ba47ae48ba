pub mod Moments
pub mod Entries
pub mod Unique
pub mod Append
pub mod Gates
pub mod ReadOn
pub mod Heads
pub mod Formats
