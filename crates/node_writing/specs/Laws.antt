pub mod Names
pub mod Renaming
pub mod Tallies
pub mod Putting
pub mod Written
