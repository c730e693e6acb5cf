pub mod Copying
pub mod Escaping
