pub mod Documents
