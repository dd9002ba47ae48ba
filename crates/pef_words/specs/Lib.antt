pub mod Said
pub mod Lines
pub mod Worded
pub mod Going
pub mod Top
