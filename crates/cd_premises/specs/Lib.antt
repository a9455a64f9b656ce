pub mod Meets
pub mod Runs
