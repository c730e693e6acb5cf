pub mod Values
pub mod Elements
pub mod Children
pub mod Prolog
pub mod Laws
