pub mod Rows
pub mod EventTypes
pub mod GenericStates
pub mod SensorTypes
pub mod SensorStates
pub mod Severities
pub mod Details
pub mod Sentence
