pub mod Load
pub mod Laws
