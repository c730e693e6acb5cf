pub mod Modes
pub mod Needs
pub mod Words
