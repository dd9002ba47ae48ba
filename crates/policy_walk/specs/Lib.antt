pub mod Stops
pub mod Tried
pub mod First
pub mod Place
pub mod Standing
pub mod Promises
