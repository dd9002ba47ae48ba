pub mod Numbered
pub mod InitialFilters
pub mod InitialTables
pub mod Written
pub mod Examples
pub mod Powered
