pub mod Beside
pub mod Theorem
pub mod Laws
