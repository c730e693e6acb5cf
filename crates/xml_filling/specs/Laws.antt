pub mod Rows
pub mod Tokens
pub mod Decoding
pub mod Texts
pub mod Names
pub mod Places
