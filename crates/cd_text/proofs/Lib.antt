pub mod Numerals
pub mod Separated
pub mod TermTexts
pub mod Feedless
pub mod Fronts
