pub mod TurnOrder
pub mod AlertExamples
