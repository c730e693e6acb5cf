pub mod Causes
pub mod Contract
pub mod Admission
pub mod Judgement
pub mod Way
pub mod Waits
pub mod Grants
pub mod Laws
