pub mod Values
pub mod Classes
pub mod Steps
pub mod Laws
