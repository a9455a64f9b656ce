pub mod Replays
pub mod Replayed
pub mod Prospects
pub mod Ends
