pub mod Grammar
pub mod Refusals
pub mod Shortest
pub mod Laws
pub mod Reading
pub mod Spelling
