pub mod Plain
pub mod Firsts
pub mod Stamps
pub mod Whole
pub mod Shares
pub mod Outlook
pub mod Crossing
