pub mod Walks
pub mod Once
pub mod Asking
