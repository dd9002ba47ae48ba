pub mod Arriving
pub mod Feeding
pub mod Performing
pub mod Top
