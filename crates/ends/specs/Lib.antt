pub mod Ends
pub mod Marks
pub mod Pass
pub mod Laws
