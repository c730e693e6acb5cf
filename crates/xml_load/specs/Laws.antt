pub mod Judgement
pub mod Empty
pub mod Load
