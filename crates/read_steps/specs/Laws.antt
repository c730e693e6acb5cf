pub mod Lengths
pub mod Steps
