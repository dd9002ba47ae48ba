pub mod Layout
pub mod Refusals
pub mod Columns
pub mod Writing
pub mod Laws
