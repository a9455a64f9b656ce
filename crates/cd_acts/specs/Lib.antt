pub mod View
pub mod Indexed
pub mod Hits
pub mod Struck
pub mod Answers
pub mod Acts
