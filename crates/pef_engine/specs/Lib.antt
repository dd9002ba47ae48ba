pub mod Faults
pub mod Rules
pub mod MachineView
pub mod CrashFree
pub mod Lives
pub mod Engine
pub mod Scripts
pub mod Marks
