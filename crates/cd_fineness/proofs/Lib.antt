pub mod Symbolic
pub mod Replaying
pub mod Fine
