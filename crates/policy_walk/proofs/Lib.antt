pub mod Passing
pub mod Growing
pub mod Reached
pub mod Allowed
pub mod Examples
pub mod Renamed
