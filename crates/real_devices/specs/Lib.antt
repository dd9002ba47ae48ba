pub mod Lines
pub mod Silent
pub mod Plant
pub mod Failures
pub mod Arriving
pub mod Holding
pub mod Devices
