pub mod Agreeing
pub mod Order
pub mod Sorted
pub mod Entries
