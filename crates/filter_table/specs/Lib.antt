pub mod Entry
pub mod Matching
pub mod BitTest
pub mod Filters
