pub mod Silence
pub mod LineLemmas
pub mod TestLines
