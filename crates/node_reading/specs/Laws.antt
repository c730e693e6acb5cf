pub mod Stores
pub mod Subtree
pub mod Buffers
