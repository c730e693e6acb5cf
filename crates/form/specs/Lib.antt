pub mod Form
pub mod Check
pub mod Start
pub mod Laws
