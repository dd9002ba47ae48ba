pub mod Asking
pub mod Answers
pub mod Queue
pub mod Laws
