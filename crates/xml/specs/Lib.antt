pub mod Bytes
pub mod Shape
pub mod Grammar
pub mod Reading
pub mod Writing
pub mod Laws
