pub mod Committed
pub mod Calls
