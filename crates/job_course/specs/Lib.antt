pub mod Counting
pub mod Undertaking
pub mod Running
pub mod Turns
pub mod Progress
pub mod Steps
