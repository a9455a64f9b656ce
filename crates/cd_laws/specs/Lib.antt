pub mod Premises
pub mod Sound
pub mod Statements
pub mod Closing
pub mod Rooted
pub mod Measure
pub mod Schedule
pub mod Turns
