pub mod Rows
pub mod Lending
pub mod Laws
