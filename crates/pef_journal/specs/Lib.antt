pub mod Image
pub mod Gate
pub mod Journal
pub mod Format
