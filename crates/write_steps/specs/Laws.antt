pub mod Contents
pub mod Renames
pub mod Inserts
