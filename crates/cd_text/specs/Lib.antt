pub mod Words
pub mod Numerals
pub mod Texts
pub mod Feeds
pub mod Formed
pub mod Fronts
