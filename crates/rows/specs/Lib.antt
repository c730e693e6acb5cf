pub mod Places
pub mod Found
pub mod Placing
pub mod Rows
