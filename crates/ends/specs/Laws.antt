pub mod Marks
pub mod Pass
pub mod Calls
