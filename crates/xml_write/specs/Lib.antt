pub mod Contract
pub mod Texts
pub mod Pieces
pub mod Laws
