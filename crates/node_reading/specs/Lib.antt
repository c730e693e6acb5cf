pub mod Stored
pub mod Subtree
pub mod Laws
