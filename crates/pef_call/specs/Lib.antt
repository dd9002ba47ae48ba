pub mod Forms
pub mod Words
pub mod Init
pub mod Kinds
pub mod Top
pub mod Receiving
pub mod Listing
