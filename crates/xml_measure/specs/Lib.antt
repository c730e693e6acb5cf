pub mod Lines
pub mod Walk
pub mod Names
pub mod Laws
