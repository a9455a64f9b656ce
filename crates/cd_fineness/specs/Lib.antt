pub mod Over
pub mod Fine
