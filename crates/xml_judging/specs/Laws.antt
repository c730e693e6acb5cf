pub mod Element
pub mod Whole
