pub mod Exchange
pub mod Contract
pub mod Theorem
