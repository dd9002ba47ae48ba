pub mod Trap
pub mod Acknowledgement
pub mod Laws
