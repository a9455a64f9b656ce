pub mod Times
pub mod Runs
pub mod Worlds
pub mod Picks
pub mod Draws
pub mod Once
