pub mod Plain
pub mod Whole
pub mod Choices
pub mod Turns
pub mod Peers
pub mod Readiness
