pub mod Ascending
pub mod Shown
pub mod Transactions
pub mod WaitSets
