pub mod Numbers
pub mod Texts
pub mod Parts
pub mod Alerts
pub mod AtOnce
pub mod Job
pub mod Promises
