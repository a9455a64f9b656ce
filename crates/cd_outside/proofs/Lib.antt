pub mod Cutting
pub mod Giving
pub mod Receiving
pub mod Sending
