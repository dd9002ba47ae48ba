pub mod Line
pub mod Refusal
pub mod Ending
pub mod Finishing
