pub mod Judged
pub mod Laws
