pub mod Committed
pub mod Laws
