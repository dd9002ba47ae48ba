pub mod Layouts
pub mod Short
mod Examples
