pub mod Lines
pub mod Selection
pub mod Contents
pub mod Walk
pub mod Tags
pub mod Names
pub mod Measure
