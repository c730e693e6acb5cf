pub mod Documents
pub mod Pieces
pub mod Rows
pub mod Calls
pub mod Examples
