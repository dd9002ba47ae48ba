pub mod ReadAhead
pub mod Window
