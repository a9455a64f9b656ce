pub mod Asked
pub mod Headline
pub mod Ends
pub mod Finding
pub mod Running
pub mod Texts
