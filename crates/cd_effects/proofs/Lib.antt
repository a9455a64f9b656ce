pub mod Effects
pub mod Hits
pub mod Starts
