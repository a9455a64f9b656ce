pub mod Recorded
pub mod Live
pub mod Laws
