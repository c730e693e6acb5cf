pub mod Agreement
pub mod Order
pub mod Sorted
pub mod Laws
