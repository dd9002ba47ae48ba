pub mod Shared
pub mod GoingLemmas
mod LineLemmas
pub mod ScriptsLemmas
mod TakesLemmas
mod PlayLemmas
pub mod TopLemmas
pub mod EndLemmas
pub mod PerformLemmas
mod InMemory
