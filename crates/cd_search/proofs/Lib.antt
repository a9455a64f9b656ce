pub mod Advancing
pub mod Runs
pub mod Steps
