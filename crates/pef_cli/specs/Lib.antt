pub mod NoStart
pub mod Reading
