pub mod Moments
pub mod Faults
pub mod Endings
pub mod Acks
pub mod Rows
pub mod Forms
pub mod Writing
