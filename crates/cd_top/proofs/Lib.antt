pub mod Chains
pub mod Accepting
pub mod Least
pub mod Ending
pub mod Reading
pub mod Sorting
pub mod Runs
