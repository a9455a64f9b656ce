pub mod Searching
pub mod Living
pub mod Moving
pub mod Choosing
pub mod Frames
pub mod Runs
